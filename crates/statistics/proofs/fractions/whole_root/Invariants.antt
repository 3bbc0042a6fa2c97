-- The root is `low`, or a number between the two.
use Rattle.std.proofs.Common.{◌≤◌, ◌<◌, ◌-◌, ◌*◌, ◌^◌}
use Rattle.statistics.proofs.fractions.whole_root.Given as goal

abbrev pub invariant-loop-low : goal.invariant-loop-low
invariant-loop-low l = record {
  order : l.low < l.high;
  small : l.high ≤ 2 ^ 34;
  below : l.low * l.low ≤ l.n;
  above : l.n < l.high * l.high;
}

abbrev pub decreases-loop-low : goal.decreases-loop-low
decreases-loop-low l = l.high - l.low
