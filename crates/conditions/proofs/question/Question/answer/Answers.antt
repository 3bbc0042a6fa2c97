use Rattle.std.proofs.Common.{arith}
use Rattle.conditions.specs.Form.{amount_of}
use Rattle.conditions.proofs.ValueBounds.{at_most}
use Rattle.conditions.proofs.question.Question.answer.Goals as goal

pub returns-in-Value-clause-within : goal.returns-in-Value-clause-within
returns-in-Value-clause-within c =
    rw (← c.self.view_is, c.in-Value.is) omega (
      arith,
      c.value_in.ensures.value,
      at_most c.args.deal.now c.hand-hand.ensures.partition (amount_of c.in-Value.value),
    )
