use Rattle.std.proofs.Common.{arith}
use Rattle.std.proofs.lemmas.List.{length-set}
use Rattle.lcg48.proofs.Digits.{table_more}
use Rattle.lcg48.proofs.jumps.Jumps.new.Goals as goal

pub loop-index-preserved : goal.loop-index-preserved
loop-index-preserved c = record {
  long = simp length-set c.loop-index.invariant.long;
  table = table_more c.loop-index.strides c.loop-index.index c.stride_at.result
      (omega (arith, c.loop-index.invariant.long)) c.stride_at.ensures c.loop-index.invariant.table;
}
