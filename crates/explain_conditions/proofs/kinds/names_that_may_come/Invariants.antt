use Rattle.std.proofs.Common.{◌≡◌, ◌↔◌, ℕ, ◌<◌, false, IsTrue, length, slice_index_or}
use Rattle.explain_conditions.specs.Asked.{CanStand}
use Rattle.cond_lang.specs.declared.words.Kind.TheVariants as kind
use Rattle.explain_conditions.proofs.kinds.names_that_may_come.Given as goal

abbrev pub invariant-loop-number : goal.invariant-loop-number
invariant-loop-number l =
    (length l.names.items ≡ l.number)
    × ((n : ℕ) → n < l.number
    → IsTrue (slice_index_or l.names.items n false)
    ↔ CanStand l.asked l.beginning (kind.Name n))
