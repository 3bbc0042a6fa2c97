use Rattle.std.proofs.Common.{◌+◌, ap, ◌∙◌}
use Rattle.conditions.specs.Form.{amount_of}
use Rattle.screens.specs.internal.Shares.{beside}
use Rattle.screens.proofs.Estimates.{one_hand, two_hands}
use Rattle.screens.proofs.estimate.Estimate.of.Goals as goal
use Rattle.screens.proofs.estimate.Estimate.of.Goals.{in-OneHand, in-TwoHands}

pub returns : goal.returns
returns c =
    elim c.match-stage.branch [
      | in-OneHand w ↦
          one_hand c.args.bound c.args.stage c.args.fixed.now (amount_of c.args.value.now) _ w.in-OneHand.is
          c.open_weights-taken.ensures.each c.held_weights.ensures w.south-is
          (ap (λ n. n + c.from.result) c.beside.ensures.value
          ∙ ap (λ n. beside c.args.bound (amount_of c.args.value.now) + n)
          (c.from.ensures ∙ c.total_of.ensures.value))
      | in-TwoHands w ↦
          two_hands c.args.bound c.args.stage c.args.fixed.now (amount_of c.args.value.now) _ w.in-TwoHands.is
          c.open_weights-taken.ensures.each c.held_weights.ensures
          (rw w.south-is w.held_weights-south.ensures)
          (ap (λ n. n + c.from.result) c.beside.ensures.value
          ∙ ap (λ n. beside c.args.bound (amount_of c.args.value.now) + n)
          (c.from.ensures ∙ c.total_of.ensures.value))
    ]
