use Rattle.std.proofs.Common.{◌≡◌, ℕ, ◌<◌, false, length, slice_index_or}
use Rattle.explain_conditions.specs.Asked.{IsOfValue}
use Rattle.explain_conditions.proofs.kinds.names_of_values.Given as goal

abbrev pub invariant-loop-number : goal.invariant-loop-number
invariant-loop-number l =
    (length l.values.items ≡ l.number)
    × ((n : ℕ) → n < l.number → IsOfValue l.beginning n (slice_index_or l.values.items n false))
