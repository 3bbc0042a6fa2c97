use Rattle.cards.proofs.DealMasks.{masks_view}
use Rattle.cards.proofs.FullMasks.{masks_of_partition}
use Rattle.cards.proofs.deal.Deal.of_partition.Goals as goal

pub invariant_of-result : goal.invariant_of-result
invariant_of-result c = masks_of_partition c.args.seats.now _ _ _ _ c.requires c.mask_of.ensures c.mask_of-2.ensures
    c.mask_of-3.ensures c.mask_of-4.ensures

pub returns : goal.returns
returns c = masks_view c.args.seats.now _ _ _ c.requires c.mask_of.ensures c.mask_of-2.ensures c.mask_of-3.ensures
