use Rattle.std.proofs.Common.{arith}
use Rattle.lanes.proofs.ends.LaneOut.count_verdicts.Goals as goal

pub overflow_add-result : goal.overflow_add-result
overflow_add-result c = let k = c.self.inside.consumer in omega (arith, k.counts, k.reads, c.len.ensures, c.cached_slots.ensures)

pub overflow_add-result-2 : goal.overflow_add-result-2
overflow_add-result-2 c = let k = c.slots.new.self in omega (arith, k.counts, k.reads, c.len-2.ensures, c.slots.ensures.value)
