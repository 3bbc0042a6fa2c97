use Rattle.std.proofs.Common.{arith}
use Rattle.cards.specs.internal.Masks.{cards_of_mask}
use Rattle.cards.proofs.WeightedCounts.{weight_as_read, weight_of-most}
use Rattle.cards.proofs.masks.weight_of_mask.Goals as goal

pub returns-clause-value : goal.returns-clause-value
returns-clause-value c =
    weight_as_read c.args.weights c.args.cards _ _ _ _ c.requires.cards (omega arith) c.from.ensures c.from-2.ensures
    c.from-3.ensures c.from-4.ensures

pub overflow_cast-result : goal.overflow_cast-result
overflow_cast-result c =
    omega (
      arith,
      weight_as_read c.args.weights c.args.cards _ _ _ _ c.requires.cards (omega arith) c.from.ensures
          c.from-2.ensures c.from-3.ensures c.from-4.ensures,
      weight_of-most c.args.weights (cards_of_mask c.args.cards) (omega arith) c.requires.light,
    )

pub returns-clause-most : goal.returns-clause-most
returns-clause-most c =
    omega (arith, returns-clause-value c, weight_of-most c.args.weights (cards_of_mask c.args.cards) (omega arith) c.requires.light)
