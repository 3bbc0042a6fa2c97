use Rattle.std.proofs.Common.{◌∙◌, arith}
use Rattle.cards.proofs.MaskCounts.{weight_in_mask, suit_masks}
use Rattle.cards.proofs.WeightedCounts.{weight_in-most}
use Rattle.cards.proofs.hand.Hand.weight_in.Goals as goal

pub returns-clause-value : goal.returns-clause-value
returns-clause-value c = rw (← c.self.view_is) (c.weight_of_mask.ensures.value
    ∙ weight_in_mask c.args.weights c.args.suit c.self.inside.cards c.suit_mask.result c.self.invariant
    (c.suit_mask.ensures.value ∙ suit_masks c.args.suit))

pub returns-clause-most : goal.returns-clause-most
returns-clause-most c = omega (arith, returns-clause-value c, weight_in-most c.args.weights c.args.self.now c.args.suit (omega arith) c.requires)
