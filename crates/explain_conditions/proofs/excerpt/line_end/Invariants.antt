use Rattle.std.proofs.Common.{◌≢◌, ℕ, ◌-◌, ◌<◌, ◌≤◌, length, slice_index}
use Rattle.explain_conditions.proofs.excerpt.line_end.Given as goal

abbrev pub invariant-loop-end : goal.invariant-loop-end
invariant-loop-end l =
    (l.place ≤ l.end) × (l.end ≤ length l.text)
    × ((k : ℕ) → l.place ≤ k → k < l.end → slice_index l.text k ≢ 10)

abbrev pub decreases-loop-end : goal.decreases-loop-end
decreases-loop-end l = length l.text - l.end
