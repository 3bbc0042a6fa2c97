-- The questions so far have counted the deal, and the others are as they were.
use Rattle.std.proofs.Common.{◌≡◌, ◌<◌, ◌≤◌, ℕ, get_or, length}
use Rattle.statistics.specs.internal.Kept.{IsCounted, KeptOne}
use Rattle.statistics.proofs.each.Each.count.Given as goal

abbrev pub invariant-loop-one : goal.invariant-loop-one
invariant-loop-one l = record {
  same : length l.one-items ≡ length l.fn.self.ones;
  within : l.one-index ≤ length l.fn.self.ones;
  done : (k : ℕ) (d : KeptOne) → k < l.one-index → IsCounted l.deal (get_or l.fn.self.ones k d) (get_or l.one-items k d);
  rest : (k : ℕ) (d : KeptOne) → l.one-index ≤ k → get_or l.one-items k d ≡ get_or l.fn.self.ones k d;
}
