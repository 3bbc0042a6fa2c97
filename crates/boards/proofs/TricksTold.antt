-- What holds of all that a line tells.
use Rattle.std.proofs.Common.{◌≡◌, ◌≤◌, ℕ, ◌&&◌, ◌==◌, ◌∙◌, true, List, [], ◌∷◌, ◌++◌, length, map, refl, ap, inl}
use Rattle.std.proofs.Common.{inr, All, arith, bytes_eq, codes, eqb-true, length-append}
use Rattle.std.proofs.lemmas.Bool.{and_parts}
use Rattle.std.proofs.Common.{zero, suc, drop, length-drop, take}
use Rattle.std.specs.Prelude.{nat_lt, slice_index}
use Rattle.std.proofs.lemmas.List.{length-map}
use Rattle.std.proofs.lemmas.Bool.{or_cases}
use Rattle.std.proofs.lemmas.Slice.Eq.{bytes_eq-Decides}
use Rattle.std.specs.Char.{is_ascii_digit, to_ascii_lowercase}
use Rattle.std.specs.List.{list_all}
use Rattle.std.specs.Int.{is_in_range}
use Rattle.std.proofs.lemmas.Grind.{common_steps}
use Rattle.boards.specs.TricksLines.{IsSmallDigit, IsTold, are_points, are_tricks, are_with_par, is_contract}
use Rattle.boards.specs.TricksLines.{is_contract_byte, is_side, is_tricks, known}
use Rattle.boards.specs.TricksTags.{is_score}
use Rattle.boards.specs.internal.TricksWords.{IsScored}

pub small_digit : (b : ℕ) → is_tricks b ≡ true → IsSmallDigit (to_ascii_lowercase b)
small_digit b h = grind (arith, common_steps)

pub are_small : (tricks : List ℕ) → list_all is_tricks tricks ≡ true → All IsSmallDigit (map to_ascii_lowercase tricks)
are_small [] h = λ k d l. absurd (omega arith)
are_small (b ∷ bs) h =
    let both = and_parts (is_tricks b) (list_all is_tricks bs) h in
    λ k d l. by_place both.0 (are_small bs both.1) k d l
  where
    by_place : is_tricks b ≡ true → All IsSmallDigit (map to_ascii_lowercase bs) → All IsSmallDigit (map to_ascii_lowercase (b ∷ bs))
    by_place first later zero d l = small_digit b first
    by_place first later (suc k) d l = later k d (omega arith)

pub side_length : (side : List ℕ) → is_side side ≡ true → length side ≡ 2
side_length side h = elim (or_cases (bytes_eq side (codes "NS")) (bytes_eq side (codes "EW")) h) [
  | inl ns ↦ ap length ((bytes_eq-Decides side (codes "NS")).0 ns)
  | inr ew ↦ ap length ((bytes_eq-Decides side (codes "EW")).0 ew)
]

pub points_length : (points : List ℕ) → are_points points ≡ true → length points ≤ 4
points_length points h =
    let parts = and_parts (is_in_range 1 4 (length points)) (list_all is_ascii_digit points) h in
    grind (arith, common_steps)

some_score : (side points : List ℕ) → side ++ (32 ∷ points) ≡ [] → ⊥
some_score [] points e = cc
some_score (x ∷ xs) points e = cc

-- tricks alone
pub alone_told : (tricks : List ℕ) → are_tricks tricks ≡ true → IsTold (known tricks [] [])
alone_told tricks h =
    let both = and_parts (length tricks == 20) (list_all is_tricks tricks) h in
    let twenty : length tricks ≡ 20 = eqb-true (length tricks) 20 both.0 in record {
      digits = inr (length-map _ _ ∙ twenty);
      are_small = are_small tricks both.1;
      score = omega arith;
      with_digits = λ e. refl;
      contract = omega arith;
      with_score = λ e. refl;
    }

-- and with par
pub par_told : (tricks side points contract : List ℕ) → are_with_par tricks side points ≡ true → length contract ≤ 24
    → IsTold (known tricks (side ++ (32 ∷ points)) contract)
par_told tricks side points contract h few =
    let parts = and_parts (are_tricks tricks) (is_side side && are_points points) h in
    let par = and_parts (is_side side) (are_points points) parts.1 in
    let alone = alone_told tricks parts.0 in
    let two = side_length side par.0 in
    let four = points_length points par.1 in
    let tricks_are = eqb-true (length tricks) 20 (and_parts (length tricks == 20) (list_all is_tricks tricks) parts.0).0 in
    let twenty : length (map to_ascii_lowercase tricks) ≡ 20 = length-map _ _ ∙ tricks_are in
    let score : length (side ++ (32 ∷ points)) ≤ 7 = omega (arith, length-append side (32 ∷ points), two, four) in record {
      digits = alone.digits;
      are_small = alone.are_small;
      score = score;
      with_digits = λ e. let none : length (map to_ascii_lowercase tricks) ≡ 0 = ap length e in absurd (omega (arith, none, twenty));
      contract = few;
      with_score = λ e. absurd (some_score side points e);
    }

-- and with par and its contract as they stand
pub scored_told : (tricks score contract : List ℕ) → are_tricks tricks ≡ true → IsScored score contract → IsTold (known tricks score contract)
scored_told tricks score contract h par =
    let alone = alone_told tricks h in
    let twenty : length (map to_ascii_lowercase tricks) ≡ 20 = length-map _ _
    ∙ eqb-true (length tricks) 20 (and_parts (length tricks == 20) (list_all is_tricks tricks) h).0 in record {
      digits = alone.digits;
      are_small = alone.are_small;
      score = par.short;
      with_digits = λ e. let none : length (map to_ascii_lowercase tricks) ≡ 0 = ap length e in absurd (omega (arith, none, twenty));
      contract = par.few;
      with_score = par.with_score;
    }

pub no_score : IsScored [] []
no_score = record { short = omega arith; few = omega arith; with_score = λ e. refl }

pub short_score : (score : List ℕ) → is_score score ≡ true → length score ≤ 7
short_score score h =
    let parts = and_parts (nat_lt 3 (length score)) _ h in
    let later = and_parts (is_side (take 2 score)) _ parts.1 in
    let four = points_length (drop 3 score) (and_parts (slice_index score 2 == 32) (are_points (drop 3 score)) later.1).1 in
    omega (arith, length-drop 3 score, four)

pub score_alone : (score : List ℕ) → is_score score ≡ true → IsScored score []
score_alone score h = record { short = short_score score h; few = omega arith; with_score = λ e. refl }

some_value : (score : List ℕ) → is_score score ≡ true → score ≡ [] → ⊥
some_value score h e = let bad : is_score [] ≡ true = rw e at h in cc

few_letters : (contract : List ℕ) → is_contract contract ≡ true → length contract ≤ 24
few_letters contract h =
    let parts = and_parts (is_in_range 1 24 (length contract)) (list_all is_contract_byte contract) h in
    grind (arith, common_steps)

pub score_and_contract : (score contract : List ℕ) → is_score score ≡ true → is_contract contract ≡ true → IsScored score contract
score_and_contract score contract h letters = record {
  short = short_score score h;
  few = few_letters contract letters;
  with_score = λ e. absurd (some_value score h e);
}
