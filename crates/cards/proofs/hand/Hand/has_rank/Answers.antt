use Rattle.std.proofs.Common.{◌+◌, ap}
use Rattle.cards.proofs.MaskCounts.{held_bit}
use Rattle.cards.proofs.hand.Hand.has_rank.Goals as goal

pub returns : goal.returns
returns c =
    held_bit c.self.inside.cards _ _ c.args.self.now c.self.invariant c.self.view_is (ap (λ a. a + c.args.rank) c.first_card.ensures.value)
