use Rattle.std.proofs.Common.{◌≡◌, ◌↔◌, ℕ, ◌<◌, false, IsTrue, length, slice_index_or}
use Rattle.explain_conditions.specs.Asked.{CanStand}
use Rattle.cond_lang.specs.declared.words.Kind.TheVariants as kind
use Rattle.cond_lang.specs.Kinds.{all_kinds}
use Rattle.explain_conditions.proofs.kinds.KindSet.of.Given as goal

abbrev pub invariant-loop-i : goal.invariant-loop-i
invariant-loop-i l =
    (length l.holds ≡ length all_kinds)
    × ((k : ℕ) → k < l.i
    → IsTrue (slice_index_or l.holds k false)
    ↔ CanStand l.asked l.beginning (slice_index_or all_kinds k kind.Let))
