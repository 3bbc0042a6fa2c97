use Rattle.std.proofs.Common.{[], append-nil, refl, string_bytes, sym}
use Rattle.explain_conditions.specs.Explanation.{Nothing}
use Rattle.explain_conditions.proofs.Appending.{shows}
use Rattle.explain_conditions.proofs.refusal.put_told.Goals as goal

pub returns : goal.returns
returns c =
    let mid = string_bytes c.put_excerpt.new.out in
    shows c.put_hint.result Nothing c.args.text.now c.args.at (string_bytes c.args.out.now) mid mid
    (string_bytes c.put_hint.new.out) [] c.in_ok-put_excerpt.ensures (sym (append-nil mid)) refl c.put_hint.ensures
