use Rattle.std.proofs.Common.{arith}
use Rattle.lanes.proofs.ends.LaneOut.settle.Goals as goal

pub overflow_add-result : goal.overflow_add-result
overflow_add-result c = let k = c.slots_after.new.self in omega (arith, k.counts, k.reads, c.len.ensures, c.slots_after.ensures.value)
