-- The most rows so far.
use Rattle.std.proofs.Common.{◌≡◌, ◌≤◌, length, take}
use Rattle.statistics.specs.Counting.{most_rows}
use Rattle.statistics.proofs.subject.most_rows.Given as goal

abbrev pub invariant-loop-asked : goal.invariant-loop-asked
invariant-loop-asked l = record {
  most : l.most ≡ most_rows (take l.asked-index l.asked);
  within : l.asked-index ≤ length l.asked;
}
