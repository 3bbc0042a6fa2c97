use Rattle.std.proofs.Common.{◌∙◌}
use Rattle.cards.proofs.MaskCounts.{honours_in_mask, suit_masks}
use Rattle.cards.proofs.hand.Hand.honours_in.Goals as goal

pub returns : goal.returns
returns c = rw (← c.self.view_is) (c.honours_of_mask.ensures
    ∙ honours_in_mask c.args.honours c.args.suit c.self.inside.cards c.suit_mask.result c.self.invariant
    (c.suit_mask.ensures.value ∙ suit_masks c.args.suit))
