-- How the cells of a table of two questions add up.
use Rattle.std.proofs.Common.{◌≡◌, ◌+◌, ◌-◌, ◌<◌, ◌≤◌, ◌∷◌, ◌∙◌, ◌&&◌, ℕ, suc, Bool, true, false, cond, eqb}
use Rattle.std.proofs.Common.{List, [], length, map, filter, sum, refl, sym, ap, ap₂, subst, arith}
use Rattle.std.specs.List.{range_with_len, sum_by}
use Rattle.std.proofs.lemmas.List.Sums.{sum-map, sum_by-cons}
use Rattle.cards.specs.declared.seat.Seat.{Seat}
use Rattle.conditions.specs.Questions.{Question, answer, asks_condition, asks_value, is_condition}
use Rattle.statistics.specs.Answers.{answers_of, count_of, greatest_of, least_of, rows}
use Rattle.statistics.specs.Counting.{pairs_of}
use Rattle.statistics.specs.TwoQuestions.{Pairs, cell, in_column, of_columns, of_rows}
use Rattle.statistics.proofs.Adding.{AreIn, all_no_or_yes, in_value_rows, one_among, sum_along, sum_of_both, sum_of_none}

-- the pairs are the answers to each question
rows_are : (of by : Question) (deals : List (List Seat)) → of_rows (pairs_of of by deals) ≡ answers_of of deals
rows_are of by [] = refl
rows_are of by (deal ∷ deals) = ap (λ answers. answer of deal ∷ answers) (rows_are of by deals)

columns_are : (of by : Question) (deals : List (List Seat)) → of_columns (pairs_of of by deals) ≡ answers_of by deals
columns_are of by [] = refl
columns_are of by (deal ∷ deals) = ap (λ answers. answer by deal ∷ answers) (columns_are of by deals)

-- a pair adds one to one cell of its row, and of its column
in_row : (is : Bool) (b first many : ℕ) → first ≤ b → b < first + many
    → sum_by (λ (m : ℕ). cond (is && eqb b m) 1 0) (range_with_len first many) ≡ cond is 1 0
in_row true b first many le lt = one_among b first many le lt
in_row false b first many le lt = sum_of_none (range_with_len first many)

and_true : (b : Bool) → ◌≡◌ {A = ℕ} (cond (b && true) 1 0) (cond b 1 0)
and_true true = refl
and_true false = refl

and_false : (b : Bool) → ◌≡◌ {A = ℕ} (cond (b && false) 1 0) 0
and_false true = refl
and_false false = refl

in_its_column : (is : Bool) (a first many : ℕ) → first ≤ a → a < first + many
    → sum_by (λ (n : ℕ). cond (eqb a n && is) 1 0) (range_with_len first many) ≡ cond is 1 0
in_its_column true a first many le lt =
    sum_along (λ (n : ℕ). cond (eqb a n && true) 1 0) (λ (n : ℕ). cond (eqb a n) 1 0) (range_with_len first many) (λ n. and_true (eqb a n))
    ∙ one_among a first many le lt
in_its_column false a first many le lt =
    sum_along (λ (n : ℕ). cond (eqb a n && false) 1 0) (λ (n : ℕ). 0) (range_with_len first many) (λ n. and_false (eqb a n))
    ∙ sum_of_none (range_with_len first many)

one_more_cell : (p : ℕ × ℕ) (pairs : Pairs) (n m : ℕ) → cell (p ∷ pairs) n m ≡ cond (eqb p.0 n && eqb p.1 m) 1 0 + cell pairs n m
one_more_cell p pairs n m = sum_by-cons (λ (q : ℕ × ℕ). cond (eqb q.0 n && eqb q.1 m) 1 0) p pairs

row_sum : (n first many : ℕ) (pairs : Pairs) → AreIn first (first + many) (of_columns pairs)
    → sum_by (λ (m : ℕ). cell pairs n m) (range_with_len first many) ≡ count_of n (of_rows pairs)
row_sum n first many [] in_them = sum_of_none (range_with_len first many)
row_sum n first many (p ∷ pairs) in_them =
    sum_along (λ (m : ℕ). cell (p ∷ pairs) n m) (λ (m : ℕ). cond (eqb p.0 n && eqb p.1 m) 1 0 + cell pairs n m) (range_with_len first many)
    (λ m. one_more_cell p pairs n m)
    ∙ sum_of_both (λ (m : ℕ). cond (eqb p.0 n && eqb p.1 m) 1 0) (λ (m : ℕ). cell pairs n m) (range_with_len first many)
    ∙ ap₂ (λ (x y : ℕ). x + y) (in_row (eqb p.0 n) p.1 first many in_them.0 in_them.1) (row_sum n first many pairs in_them.2)
    ∙ sym (sum_by-cons (λ (a : ℕ). cond (eqb a n) 1 0) p.0 (of_rows pairs))

-- a column's answers with one pair more
counted : (is : Bool) (p : ℕ × ℕ) (pairs : Pairs) → length (of_rows (cond is (p ∷ pairs) pairs)) ≡ cond is 1 0 + length (of_rows pairs)
counted true p pairs = omega arith
counted false p pairs = omega arith

column_sum : (m first many : ℕ) (pairs : Pairs) → AreIn first (first + many) (of_rows pairs)
    → sum_by (λ (n : ℕ). cell pairs n m) (range_with_len first many) ≡ length (in_column m pairs)
column_sum m first many [] in_them = sum_of_none (range_with_len first many)
column_sum m first many (p ∷ pairs) in_them =
    sum_along (λ (n : ℕ). cell (p ∷ pairs) n m) (λ (n : ℕ). cond (eqb p.0 n && eqb p.1 m) 1 0 + cell pairs n m) (range_with_len first many)
    (λ n. one_more_cell p pairs n m)
    ∙ sum_of_both (λ (n : ℕ). cond (eqb p.0 n && eqb p.1 m) 1 0) (λ (n : ℕ). cell pairs n m) (range_with_len first many)
    ∙ ap₂ (λ (x y : ℕ). x + y) (in_its_column (eqb p.1 m) p.0 first many in_them.0 in_them.1) (column_sum m first many pairs in_them.2)
    ∙ sym (counted (eqb p.1 m) p (filter (λ (q : ℕ × ℕ). eqb q.1 m) pairs))

pub cells_of_row : (of by : Question) (deals : List (List Seat)) (n : ℕ)
    → sum (map (λ (m : ℕ). cell (pairs_of of by deals) n m) (rows (is_condition by) (of_columns (pairs_of of by deals))))
    ≡ count_of n (of_rows (pairs_of of by deals))
cells_of_row of (asks_condition tree) deals n =
    let pairs = pairs_of of (asks_condition tree) deals in
    sum-map (λ (m : ℕ). cell pairs n m) (range_with_len 0 2)
    ∙ row_sum n 0 2 pairs (subst (λ (xs : List ℕ). AreIn 0 2 xs) (sym (columns_are of (asks_condition tree) deals)) (all_no_or_yes (asks_condition tree) deals refl))
cells_of_row of (asks_value value) deals n =
    let pairs = pairs_of of (asks_value value) deals in
    let answers = of_columns pairs in
    sum-map (λ (m : ℕ). cell pairs n m) (range_with_len (least_of answers) (greatest_of answers + 1 - least_of answers))
    ∙ row_sum n (least_of answers) (greatest_of answers + 1 - least_of answers) pairs (in_value_rows answers)

pub cells_of_column : (of by : Question) (deals : List (List Seat)) (m : ℕ)
    → sum (map (λ (n : ℕ). cell (pairs_of of by deals) n m) (rows (is_condition of) (of_rows (pairs_of of by deals))))
    ≡ length (in_column m (pairs_of of by deals))
cells_of_column (asks_condition tree) by deals m =
    let pairs = pairs_of (asks_condition tree) by deals in
    sum-map (λ (n : ℕ). cell pairs n m) (range_with_len 0 2)
    ∙ column_sum m 0 2 pairs (subst (λ (xs : List ℕ). AreIn 0 2 xs) (sym (rows_are (asks_condition tree) by deals)) (all_no_or_yes (asks_condition tree) deals refl))
cells_of_column (asks_value value) by deals m =
    let pairs = pairs_of (asks_value value) by deals in
    let answers = of_rows pairs in
    sum-map (λ (n : ℕ). cell pairs n m) (range_with_len (least_of answers) (greatest_of answers + 1 - least_of answers))
    ∙ column_sum m (least_of answers) (greatest_of answers + 1 - least_of answers) pairs (in_value_rows answers)
