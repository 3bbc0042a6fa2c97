use Rattle.std.proofs.Common.{arith}
use Rattle.cards.proofs.Losers.{losers_as_counted}
use Rattle.cards.proofs.hand.Hand.losers_in.Goals as goal

pub overflow_sub-result : goal.overflow_sub-result
overflow_sub-result c =
    omega (
      arith,
      losers_as_counted c.self.inside.cards c.first_card.result c.min-counted.result c.length.result
          c.args.self.now c.args.suit c.self.invariant c.self.view_is c.first_card.ensures.value c.length.ensures.value
          c.min-counted.ensures,
    )

pub returns-clause-value : goal.returns-clause-value
returns-clause-value c =
    omega (
      arith,
      losers_as_counted c.self.inside.cards c.first_card.result c.min-counted.result c.length.result
          c.args.self.now c.args.suit c.self.invariant c.self.view_is c.first_card.ensures.value c.length.ensures.value
          c.min-counted.ensures,
    )
