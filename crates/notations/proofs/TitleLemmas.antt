-- How much room titles take.
use Rattle.std.proofs.Common.{◌≡◌, ◌≤◌, ◌+◌, ◌++◌, ℕ, List, length, codes, arith, subst, sym}
use Rattle.std.proofs.lemmas.List.{length-append}
use Rattle.boards.proofs.Rooms.{narrow_bytes, room-append, wide_bytes}
use Rattle.notations.specs.internal.Titles.{AddsAtMost, IsWithin}

pub nothing_added : (old : List ℕ) → AddsAtMost 2 2 old old
nothing_added old = record { most = omega arith; wide = omega arith; narrow = omega arith }

pub comma_added : (old : List ℕ) → AddsAtMost 2 2 old (old ++ codes ", ")
comma_added old = record {
  most = omega (arith, length-append old (codes ", "));
  wide = omega (arith, room-append 5 old (codes ", "), wide_bytes (codes ", "));
  narrow = omega (arith, room-append 4 old (codes ", "), narrow_bytes (codes ", "));
}

pub text_added : (old before new text : List ℕ) (n m : ℕ) → AddsAtMost 2 2 old before → new ≡ before ++ text
    → length text ≤ n → IsWithin m text → AddsAtMost (n + 2) (m + 2) old new
text_added old before new text n m adds is short within =
    subst (AddsAtMost (n + 2) (m + 2) old) (sym is) record {
      most = omega (arith, length-append before text, adds.most, short);
      wide = omega (arith, room-append 5 before text, adds.wide, within.wide);
      narrow = omega (arith, room-append 4 before text, adds.narrow, within.narrow);
    }

pub short_within : (text : List ℕ) (n : ℕ) → length text ≤ n → IsWithin n text
short_within text n short = record { wide = omega (arith, wide_bytes text, short); narrow = omega (arith, narrow_bytes text, short) }
