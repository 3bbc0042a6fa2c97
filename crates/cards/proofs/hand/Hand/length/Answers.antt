use Rattle.std.proofs.Common.{◌∙◌, arith}
use Rattle.cards.specs.internal.Masks.{cards_of_mask}
use Rattle.cards.proofs.MaskCounts.{length_under_mask, suit_masks, length_of-le}
use Rattle.cards.proofs.hand.Hand.length.Goals as goal

pub returns-clause-value : goal.returns-clause-value
returns-clause-value c = rw (← c.self.view_is) (length_under_mask c.args.suit c.self.inside.cards c.suit_mask.result
    c.self.invariant (c.suit_mask.ensures.value ∙ suit_masks c.args.suit))

pub returns-clause-most : goal.returns-clause-most
returns-clause-most c =
    omega (
      arith,
      length_under_mask c.args.suit c.self.inside.cards c.suit_mask.result c.self.invariant
          (c.suit_mask.ensures.value ∙ suit_masks c.args.suit),
      length_of-le (cards_of_mask c.self.inside.cards) c.args.suit,
    )
