use Rattle.std.proofs.Common.{◌≡◌, arith, subst}
use Rattle.cond_lang.specs.Text.{kinds}
use Rattle.cond_lang.specs.internal.Defining.{meanings}
use Rattle.cond_lang.proofs.Counting.{CountedBelow, all_counted}
use Rattle.cond_lang.proofs.parser.Parser.all_parts.Goals as goal

pub returns-clause-counted : goal.returns-clause-counted
returns-clause-counted c =
    let last : c.loop-place.place ≡ 16 = omega arith in
    all_counted (meanings c.args.names.now) c.args.params c.args.is_value (kinds c.args.start.now) c.loop-place.parts
    (subst (λ n. CountedBelow (meanings c.args.names.now) c.args.params c.args.is_value (kinds c.args.start.now)
    c.loop-place.parts n) last c.loop-place.invariant)
