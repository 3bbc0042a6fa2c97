use Rattle.std.proofs.Common.{◌≡◌, ℕ, ◌<◌, ◌≤◌, length, slice_index, true}
use Rattle.explain_conditions.specs.Excerpt.{ends_line}
use Rattle.explain_conditions.proofs.excerpt.len_without_ends.Given as goal

abbrev pub invariant-loop-len : goal.invariant-loop-len
invariant-loop-len l =
    (l.len ≤ length l.text)
    × ((k : ℕ) → l.len ≤ k → k < length l.text → ends_line (slice_index l.text k) ≡ true)

abbrev pub decreases-loop-len : goal.decreases-loop-len
decreases-loop-len l = l.len
