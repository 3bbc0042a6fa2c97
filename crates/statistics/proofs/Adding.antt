-- How the rows of a table add up.
use Rattle.std.proofs.Common.{◌≡◌, ◌+◌, ◌-◌, ◌<◌, ◌≤◌, ◌++◌, ◌∷◌, ◌∙◌, ℕ, suc, zero, Bool, true, false, cond, eqb}
use Rattle.std.proofs.Common.{List, [], length, map, max, min, sum, fold, inl, inr, refl, sym, ap, ap₂, arith}
use Rattle.std.specs.List.{range_with_len, sum_by}
use Rattle.std.proofs.lemmas.Bool.{cases_eq, eq-eqb, ne_eqb}
use Rattle.std.proofs.lemmas.List.{length-map}
use Rattle.std.proofs.lemmas.List.Sums.{sum-map, sum_by-append, sum_by-cons}
use Rattle.cards.specs.declared.seat.Seat.{Seat}
use Rattle.conditions.specs.Meaning.{holds}
use Rattle.conditions.specs.Questions.{Question, answer, asks_condition, asks_value, is_condition}
use Rattle.statistics.specs.Answers.{answers_of, count_of, greatest_of, least_of, rows}

pub count_of-append : (n : ℕ) (xs ys : List ℕ) → count_of n (xs ++ ys) ≡ count_of n xs + count_of n ys
count_of-append n xs ys = sum_by-append (λ (a : ℕ). cond (eqb a n) 1 0) xs ys

-- each is one of the numbers
abbrev pub AreIn : ℕ → ℕ → List ℕ → Type 0
AreIn first end [] = Unit {0}
AreIn first end (a ∷ answers) = (first ≤ a) × (a < end) × AreIn first end answers

weaker : (first end low high : ℕ) (answers : List ℕ) → low ≤ first → end ≤ high → AreIn first end answers → AreIn low high answers
weaker first end low high [] l h in_them = tt
weaker first end low high (a ∷ answers) l h in_them =
    let above : first ≤ a = in_them.0 in
    let below : a < end = in_them.1 in
    (omega arith, omega arith, weaker first end low high answers l h in_them.2)

-- no number before the first, and one among them, is among them
none_before : (a first n : ℕ) → a < first → sum_by (λ (k : ℕ). cond (eqb a k) 1 0) (range_with_len first n) ≡ 0
none_before a first zero lt = refl
none_before a first (suc n) lt =
    sum_by-cons (λ (k : ℕ). cond (eqb a k) 1 0) first (range_with_len (first + 1) n)
    ∙ ap₂ (λ (b : Bool) (s : ℕ). cond b 1 0 + s) (ne_eqb a first (λ e. absurd (omega (arith, e, lt)))) (none_before a (first + 1) n (omega arith))

pub one_among : (a first n : ℕ) → first ≤ a → a < first + n → sum_by (λ (k : ℕ). cond (eqb a k) 1 0) (range_with_len first n) ≡ 1
one_among a first zero le lt = absurd (omega arith)
one_among a first (suc n) le lt =
    sum_by-cons (λ (k : ℕ). cond (eqb a k) 1 0) first (range_with_len (first + 1) n)
    ∙ elim (cases_eq a first) [
      | inl same ↦ ap₂ (λ (b : Bool) (s : ℕ). cond b 1 0 + s) (eq-eqb a first same) (none_before a (first + 1) n (omega arith))
      | inr other ↦ ap₂ (λ (b : Bool) (s : ℕ). cond b 1 0 + s) (ne_eqb a first other) (one_among a (first + 1) n (omega (arith, other)) (omega arith))
    ]

pub sum_of_both : (f g : ℕ → ℕ) (xs : List ℕ) → sum_by (λ (k : ℕ). f k + g k) xs ≡ sum_by f xs + sum_by g xs
sum_of_both f g [] = refl
sum_of_both f g (x ∷ xs) =
    let a = sum_by-cons (λ (k : ℕ). f k + g k) x xs in
    let b = sum_by-cons f x xs in
    let c = sum_by-cons g x xs in
    let d = sum_of_both f g xs in
    omega (arith, a, b, c, d)

pub sum_of_none : (xs : List ℕ) → sum_by (λ (k : ℕ). 0) xs ≡ 0
sum_of_none [] = refl
sum_of_none (x ∷ xs) = sum_by-cons (λ (k : ℕ). 0) x xs ∙ ap (λ (s : ℕ). 0 + s) (sum_of_none xs)

pub sum_along : (f g : ℕ → ℕ) (xs : List ℕ) → ((k : ℕ) → f k ≡ g k) → sum_by f xs ≡ sum_by g xs
sum_along f g [] e = refl
sum_along f g (x ∷ xs) e = sum_by-cons f x xs ∙ ap₂ (λ (m n : ℕ). m + n) (e x) (sum_along f g xs e) ∙ sym (sum_by-cons g x xs)

one_more : (n : ℕ) → 1 + n ≡ suc n
one_more n = omega arith

counts_sum : (first n : ℕ) (answers : List ℕ) → AreIn first (first + n) answers
    → sum_by (λ (k : ℕ). count_of k answers) (range_with_len first n) ≡ length answers
counts_sum first n [] in_them = sum_of_none (range_with_len first n)
counts_sum first n (a ∷ answers) in_them =
    sum_along (λ (k : ℕ). count_of k (a ∷ answers)) (λ (k : ℕ). cond (eqb a k) 1 0 + count_of k answers) (range_with_len first n)
    (λ k. sum_by-cons (λ (x : ℕ). cond (eqb x k) 1 0) a answers)
    ∙ sum_of_both (λ (k : ℕ). cond (eqb a k) 1 0) (λ (k : ℕ). count_of k answers) (range_with_len first n)
    ∙ ap₂ (λ (x y : ℕ). x + y) (one_among a first n in_them.0 in_them.1) (counts_sum first n answers in_them.2)
    ∙ one_more (length answers)

-- each answer is one from the least to the greatest
least_so_far : (m : ℕ) (answers : List ℕ) → fold min m answers ≤ m
least_so_far m [] = omega arith
least_so_far m (a ∷ answers) = let l = least_so_far (min m a) answers in omega (arith, l)

greatest_so_far : (m : ℕ) (answers : List ℕ) → m ≤ fold max m answers
greatest_so_far m [] = omega arith
greatest_so_far m (a ∷ answers) = let l = greatest_so_far (max m a) answers in omega (arith, l)

between : (m n : ℕ) (answers : List ℕ) → AreIn (fold min m answers) (fold max n answers + 1) answers
between m n [] = tt
between m n (a ∷ answers) =
    let l = least_so_far (min m a) answers in
    let g = greatest_so_far (max n a) answers in
    (omega (arith, l), omega (arith, g), between (min m a) (max n a) answers)

pub from_least : (answers : List ℕ) → AreIn (least_of answers) (greatest_of answers + 1) answers
from_least [] = tt
from_least (a ∷ answers) =
    let l = least_so_far a answers in
    let g = greatest_so_far (max 0 a) answers in
    (omega (arith, l), omega (arith, g), between a (max 0 a) answers)

pub least_is_less : (answers : List ℕ) → least_of answers ≤ greatest_of answers + 1
least_is_less [] = omega arith
least_is_less (a ∷ answers) =
    let l = least_so_far a answers in
    let g = greatest_so_far (max 0 a) answers in
    omega (arith, l, g)

pub in_value_rows : (answers : List ℕ) → AreIn (least_of answers) (least_of answers + (greatest_of answers + 1 - least_of answers)) answers
in_value_rows [] = tt
in_value_rows (a ∷ answers) =
    let l = least_is_less (a ∷ answers) in
    weaker (least_of (a ∷ answers)) (greatest_of (a ∷ answers) + 1) (least_of (a ∷ answers))
    (least_of (a ∷ answers) + (greatest_of (a ∷ answers) + 1 - least_of (a ∷ answers))) (a ∷ answers)
    (omega arith) (omega (arith, l)) (from_least (a ∷ answers))

value_rows : (answers : List ℕ) → sum (map (λ (n : ℕ). count_of n answers) (rows false answers)) ≡ length answers
value_rows answers =
    sum-map (λ (n : ℕ). count_of n answers) (rows false answers)
    ∙ counts_sum (least_of answers) (greatest_of answers + 1 - least_of answers) answers (in_value_rows answers)

no_or_yes : (b : Bool) → cond b 1 0 < 2
no_or_yes true = omega arith
no_or_yes false = omega arith

pub all_no_or_yes : (question : Question) (deals : List (List Seat)) → is_condition question ≡ true → AreIn 0 2 (answers_of question deals)
all_no_or_yes (asks_condition tree) [] is = tt
all_no_or_yes (asks_condition tree) (deal ∷ deals) is = (omega arith, no_or_yes (holds tree deal), all_no_or_yes (asks_condition tree) deals is)
all_no_or_yes (asks_value value) deals is = cc

condition_rows : (answers : List ℕ) → AreIn 0 2 answers → sum (map (λ (n : ℕ). count_of n answers) (rows true answers)) ≡ length answers
condition_rows answers in_them = sum-map (λ (n : ℕ). count_of n answers) (rows true answers) ∙ counts_sum 0 2 answers in_them

pub rows_sum : (question : Question) (deals : List (List Seat))
    → sum (map (λ (n : ℕ). count_of n (answers_of question deals)) (rows (is_condition question) (answers_of question deals))) ≡ length deals
rows_sum (asks_condition tree) deals =
    condition_rows (answers_of (asks_condition tree) deals) (all_no_or_yes (asks_condition tree) deals refl)
    ∙ length-map deals (answer (asks_condition tree))
rows_sum (asks_value value) deals = value_rows (answers_of (asks_value value) deals) ∙ length-map deals (answer (asks_value value))
