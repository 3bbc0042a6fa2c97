-- The first word of a text.
use Rattle.std.proofs.Common.{◌≡◌, ℕ, ◌+◌, Bool, true, false, cond, List, [], ◌∷◌, None, Some, take, drop, length}
use Rattle.std.proofs.Common.{position, refl, subst, arith, nat_lt}
use Rattle.std.specs.List.{slice_split, position_or_len}
use Rattle.std.proofs.lemmas.Bool.{ltb-true, ltb-false}
use Rattle.std.proofs.lemmas.Grind.{common_steps}
use Rattle.std.proofs.lemmas.List.Splits.{slice_split_first, slice_split_none}
use Rattle.std.proofs.lemmas.List.Sums.{fails_before_first}

pub first_part : (p : ℕ → Bool) (xs : List ℕ) (i : ℕ) → position p xs ≡ Some i → slice_split p xs ≡ take i xs ∷ slice_split p (drop (i + 1) xs)
first_part p xs i found = by_test (nat_lt (position_or_len p xs) (length xs)) refl found
  where
    by_test : (b : Bool) → nat_lt (position_or_len p xs) (length xs) ≡ b → cond b (Some (position_or_len p xs)) None ≡ Some i
        → slice_split p xs ≡ take i xs ∷ slice_split p (drop (i + 1) xs)
    by_test true e found =
        let same : position_or_len p xs ≡ i = cc in
        subst (λ (n : ℕ). slice_split p xs ≡ take n xs ∷ slice_split p (drop (n + 1) xs)) same
        (slice_split_first p xs 0 (ltb-true (position_or_len p xs) (length xs) e))
    by_test false e found = absurd cc

pub one_part : (p : ℕ → Bool) (xs : List ℕ) → position p xs ≡ None → slice_split p xs ≡ xs ∷ []
one_part p xs none = by_test (nat_lt (position_or_len p xs) (length xs)) refl none
  where
    by_test : (b : Bool) → nat_lt (position_or_len p xs) (length xs) ≡ b
        → cond b (Some (position_or_len p xs)) None ≡ None → slice_split p xs ≡ xs ∷ []
    by_test true e none = absurd cc
    by_test false e none =
        let past = ltb-false (position_or_len p xs) (length xs) e in
        slice_split_none p xs (λ k d h. let fails = fails_before_first p xs k d (omega arith) in grind (arith, common_steps))
