use Rattle.std.proofs.Common.{◌≡◌, length}
use Rattle.lcg48.specs.internal.Jumps.{IsTable}
use Rattle.lcg48.proofs.jumps.Jumps.new.Given as goal

abbrev pub invariant-loop-index : goal.invariant-loop-index
invariant-loop-index l = record {
  long : length l.strides ≡ 192;
  table : IsTable l.strides l.index;
}
