use Rattle.std.proofs.Common.{◌≡◌, ◌∙◌, ap, arith, get_or}
use Rattle.input.specs.internal.Hands.{move_after}
use Rattle.input.proofs.HandBytes.{at_most, in_moves, moves}
use Rattle.input.proofs.records.hand_value.move_after.Goals as goal

pub returns-clause-value : goal.returns-clause-value
returns-clause-value c = c.from-2.ensures ∙ ap (λ i. get_or moves i 0) c.from.ensures ∙ in_moves c.args.byte (omega arith)

pub returns-clause-range : goal.returns-clause-range
returns-clause-range c =
    let is : c.from-2.result ≡ move_after c.args.byte = c.from-2.ensures ∙ ap (λ i. get_or moves i 0) c.from.ensures
    ∙ in_moves c.args.byte (omega arith) in
    rw is (at_most c.args.byte)
