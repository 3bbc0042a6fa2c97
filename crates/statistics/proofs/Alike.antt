-- Lists over the same numbers.
use Rattle.std.proofs.Common.{◌≡◌, ◌+◌, ◌-◌, ◌<◌, ◌≤◌, ◌++◌, ◌∷◌, ◌∙◌, ℕ, suc, zero, Bool, true, false, List, length}
use Rattle.std.proofs.Common.{map, max, fold, get_or, refl, ap, ap₂, arith}
use Rattle.std.specs.List.{flat_map, range_with_len}
use Rattle.conditions.specs.Questions.{Question, asks_condition, asks_value, is_condition, rows_of}
use Rattle.statistics.specs.declared.rows.Rows.{Rows}
use Rattle.statistics.specs.declared.sums.Sums.{Sums}
use Rattle.statistics.specs.Answers.{count_of, most_in, rows}
use Rattle.statistics.specs.internal.Kept.{IsListOf, sums_of}
use Rattle.statistics.specs.internal.Texts.{most_of, numbers_in, rows_shown}

flat_map_along : (f g : ℕ → List ℕ) (a n : ℕ) → ((k : ℕ) → a ≤ k → k < a + n → f k ≡ g k)
    → flat_map f (range_with_len a n) ≡ flat_map g (range_with_len a n)
flat_map_along f g a zero h = refl
flat_map_along f g a (suc n) h =
    ap₂ (λ (x y : List ℕ). x ++ y) (h a (omega arith) (omega arith)) (flat_map_along f g (a + 1) n (λ k ge lt. h k (omega arith) (omega arith)))

map_along : (f g : ℕ → ℕ) (a n : ℕ) → ((k : ℕ) → a ≤ k → k < a + n → f k ≡ g k) → map f (range_with_len a n) ≡ map g (range_with_len a n)
map_along f g a zero h = refl
map_along f g a (suc n) h =
    ap₂ (λ (x : ℕ) (y : List ℕ). x ∷ y) (h a (omega arith) (omega arith)) (map_along f g (a + 1) n (λ k ge lt. h k (omega arith) (omega arith)))

pub flat_map_alike : (f g : ℕ → List ℕ) (shown : Rows) → ((k : ℕ) → k < shown.end → f k ≡ g k)
    → flat_map f (numbers_in shown) ≡ flat_map g (numbers_in shown)
flat_map_alike f g shown h = flat_map_along f g shown.first (shown.end - shown.first) (λ k ge lt. h k (omega arith))

pub map_alike : (f g : ℕ → ℕ) (shown : Rows) → ((k : ℕ) → k < shown.end → f k ≡ g k) → map f (numbers_in shown) ≡ map g (numbers_in shown)
map_alike f g shown h = map_along f g shown.first (shown.end - shown.first) (λ k ge lt. h k (omega arith))

-- the numbers that have a row may all come
pub end_within : (question : Question) (s : Sums) → s.greatest < rows_of question → (rows_shown (is_condition question) s).end ≤ rows_of question
end_within (asks_condition tree) s lt = omega arith
end_within (asks_value value) s lt = omega arith

pub same_rows : (b : Bool) (answers : List ℕ) → numbers_in (rows_shown b (sums_of answers)) ≡ rows b answers
same_rows true answers = refl
same_rows false answers = refl

pub same_most : (b : Bool) (counts answers : List ℕ) → IsListOf (λ n. count_of n answers) counts
    → (rows_shown b (sums_of answers)).end ≤ length counts
    → most_of counts (rows_shown b (sums_of answers)) ≡ most_in (rows b answers) answers
same_most b counts answers h within =
    ap (λ (xs : List ℕ). fold max 0 xs)
    (map_alike (λ (n : ℕ). get_or counts n 0) (λ (n : ℕ). count_of n answers) (rows_shown b (sums_of answers)) (λ k lt. h k (omega arith))
    ∙ ap (λ (ns : List ℕ). map (λ (n : ℕ). count_of n answers) ns) (same_rows b answers))
