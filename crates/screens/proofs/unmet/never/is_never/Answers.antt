use Rattle.std.proofs.Common.{◌∙◌, ap, sym, true}
use Rattle.conditions.specs.Form.{form_of}
use Rattle.conditions.specs.Limits.{parts_of}
use Rattle.conditions.specs.Meaning.{holds}
use Rattle.std.specs.Prelude.{nat_le}
use Rattle.screens.specs.declared.unmet.never.TheConstants.{MOST_LOOKED_AT}
use Rattle.screens.specs.Never.{is_never_part}
use Rattle.screens.proofs.Soundness.{sound}
use Rattle.screens.proofs.Truths.{all_true}
use Rattle.screens.proofs.unmet.never.is_never.Goals as goal

pub returns-clause-sound : goal.returns-clause-sound
returns-clause-sound c is deal keeps =
    let f = form_of c.tree.result.now in
    let both = all_true (nat_le (parts_of f) MOST_LOOKED_AT) (is_never_part c.args.fixed.now true f) (sym c.is_never_met.ensures ∙ is) in
    ap (λ form. holds form deal) (sym c.tree.ensures.form)
    ∙ sound c.args.fixed.now deal c.free-free.ensures.fixed keeps f true both.1
