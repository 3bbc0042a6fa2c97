use Rattle.std.proofs.Common.{sym, subst}
use Rattle.cards.specs.Deals.{IsPartition}
use Rattle.cards.proofs.Turning.{masks_turned, partition_kept}
use Rattle.cards.proofs.deal.Deal.turned.Goals as goal

pub invariant_of-result : goal.invariant_of-result
invariant_of-result c =
    (masks_turned
    c.args.to _ _ _ _ c.args.self.now _ _ _ _ c.mask.ensures.partition c.came_from.ensures c.came_from-2.ensures
    c.came_from-3.ensures c.came_from-4.ensures c.mask.ensures.value c.mask-2.ensures.value c.mask-3.ensures.value
    c.mask-4.ensures.value).0

pub returns-clause-value : goal.returns-clause-value
returns-clause-value c =
    (masks_turned
    c.args.to _ _ _ _ c.args.self.now _ _ _ _ c.mask.ensures.partition c.came_from.ensures c.came_from-2.ensures
    c.came_from-3.ensures c.came_from-4.ensures c.mask.ensures.value c.mask-2.ensures.value c.mask-3.ensures.value
    c.mask-4.ensures.value).1

pub returns-clause-partition : goal.returns-clause-partition
returns-clause-partition c =
    subst IsPartition
    (sym (masks_turned
    c.args.to _ _ _ _ c.args.self.now _ _ _ _ c.mask.ensures.partition c.came_from.ensures c.came_from-2.ensures
    c.came_from-3.ensures c.came_from-4.ensures c.mask.ensures.value c.mask-2.ensures.value c.mask-3.ensures.value
    c.mask-4.ensures.value).1)
    (partition_kept c.args.to c.args.self.now c.mask.ensures.partition)
