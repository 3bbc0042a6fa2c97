-- What is kept is that of one deal more.
use Rattle.std.proofs.Common.{◌≡◌, ◌&&◌, ◌+◌, ◌*◌, ◌<◌, ◌++◌, ◌∷◌, ◌∙◌, ℕ, suc, inl, inr, Bool, true, false, cond}
use Rattle.std.proofs.Common.{eqb, List, [], length, map, get_or, set, refl, sym, ap, ap₂, subst, arith, add-zero}
use Rattle.std.proofs.Common.{min, max, sum, if◌then◌else◌, ◌==◌, length-set, get_or-set_same, get_or-set_other}
use Rattle.std.proofs.lemmas.List.{append-nil, map-append, length_push}
use Rattle.std.proofs.lemmas.List.Sums.{fold_push, sum_by_push}
use Rattle.std.proofs.lemmas.Bool.{cases_eq, ne_eqb, eq-eqb}
use Rattle.std.proofs.lemmas.Nat.{mul-add-lt, same_from_place}
use Rattle.std.proofs.lemmas.List.Elements.{filter-append}
use Rattle.std.proofs.Math.Nat.{mul_comm}
use Rattle.std.specs.List.{filter}
use Rattle.cards.specs.declared.seat.Seat.{Seat}
use Rattle.conditions.specs.Questions.{answer}
use Rattle.statistics.specs.declared.sums.Sums.{Sums}
use Rattle.statistics.specs.Answers.{answers_of, count_of, least_of}
use Rattle.statistics.specs.Counting.{pairs_of}
use Rattle.statistics.specs.TwoQuestions.{Pairs, cell, in_column, of_columns, of_rows}
use Rattle.statistics.specs.internal.Kept.{CountsOne, CountsTwo, IsListOf, KeptOne, KeptTwo, cell_at, sums_of}
use Rattle.statistics.specs.internal.Kept.{with_answer, with_more, with_one, with_pair}

eqb_suc : (n : ℕ) → eqb (suc n) 0 ≡ false
eqb_suc n = ne_eqb (suc n) 0 (omega arith)

pub least_push : (answers : List ℕ) (a : ℕ) → least_of (answers ++ a ∷ []) ≡ (if length answers == 0 then a else min (least_of answers) a)
least_push [] a = refl
least_push (b ∷ bs) a = rw (eqb_suc (length bs)) (fold_push min b bs a)

pub sums_push : (answers : List ℕ) (a : ℕ) → with_one (sums_of answers) a ≡ sums_of (answers ++ a ∷ [])
sums_push answers a =
    let deals = length_push answers a in
    let total = sum_by_push (λ x. x) answers a in
    let squared = sum_by_push (λ x. x * x) answers a in
    let least = least_push answers a in
    let greatest = fold_push max 0 answers a in
    cc

pub count_push : (n a : ℕ) (answers : List ℕ) → count_of n (answers ++ a ∷ []) ≡ count_of n answers + cond (a == n) 1 0
count_push n a answers = sum_by_push (λ x. cond (x == n) 1 0) answers a

-- a list of numbers, of which one grew
pub list_grows : (f g : ℕ → ℕ) (numbers : List ℕ) (a amount : ℕ) → IsListOf f numbers → a < length numbers
    → ((n : ℕ) → g n ≡ f n + cond (a == n) amount 0) → IsListOf g (with_more numbers a amount)
list_grows f g numbers a amount h lt e n within =
    elim (cases_eq n a) [
      | inl same ↦ rw (e n, eq-eqb a n (sym same)) (ap (λ (k : ℕ). get_or (set numbers a (get_or numbers a 0 + amount)) k 0) same
          ∙ get_or-set_same numbers a (get_or numbers a 0 + amount) 0 lt ∙ ap (λ (k : ℕ). k + amount) (h a lt)
          ∙ ap (λ (k : ℕ). f k + amount) (sym same))
      | inr other ↦ rw (e n, ne_eqb a n (λ w. other (sym w)), add-zero) (get_or-set_other numbers a n (get_or numbers a 0 + amount) 0 other
          ∙ h n (omega (arith, within, length-set numbers a (get_or numbers a 0 + amount))))
    ]

pub one_push : (one : KeptOne) (answers : List ℕ) (a : ℕ) → CountsOne one answers → a < length one.counts
    → CountsOne (with_answer one a) (answers ++ a ∷ [])
one_push one answers a h lt = record {
  sums = ap (λ (s : Sums). with_one s a) h.sums ∙ sums_push answers a;
  counts = list_grows (λ n. count_of n answers) (λ n. count_of n (answers ++ a ∷ [])) one.counts a 1 h.counts lt (λ n. count_push n a answers);
}

pub one_counted : (one new : KeptOne) (deal : List Seat) (deals : List (List Seat)) (a : ℕ) → new ≡ with_answer one a
    → a ≡ answer one.asked.question deal
    → a < length one.counts → CountsOne one (answers_of one.asked.question deals) → CountsOne new (answers_of one.asked.question (deals ++ deal ∷ []))
one_counted one new deal deals a is given lt h =
    subst (λ (x : KeptOne). CountsOne x (map (answer one.asked.question) (deals ++ deal ∷ []))) (sym is)
    (subst (λ (ys : List ℕ). CountsOne (with_answer one a) ys)
    (ap (λ (x : ℕ). map (answer one.asked.question) deals ++ x ∷ []) given ∙ sym (map-append (answer one.asked.question) deals (deal ∷ [])))
    (one_push one (map (answer one.asked.question) deals) a h lt))

-- a cell is at one index
pub one_cell : (n m row column columns : ℕ) → m < columns → column < columns
    → eqb (row * columns + column) (n * columns + m) ≡ (eqb row n && eqb column m)
one_cell n m row column columns lt within =
    elim (cases_eq row n) [
      | inl same ↦ elim (cases_eq column m) [
        | inl too ↦ rw (eq-eqb row n same, eq-eqb column m too) (eq-eqb _ _ (ap₂ (λ (a b : ℕ). a * columns + b) same too))
        | inr other ↦ rw (eq-eqb row n same, ne_eqb column m other) (ne_eqb _ _ (λ e. other (same_from_place row column n m columns within lt e).1))
      ]
      | inr other ↦ rw (ne_eqb row n other) (ne_eqb _ _ (λ e. other (same_from_place row column n m columns within lt e).0))
    ]

pub cell_push : (pairs : Pairs) (n m row column : ℕ) → cell (pairs ++ (row, column) ∷ []) n m ≡ cell pairs n m + cond (eqb row n && eqb column m) 1 0
cell_push pairs n m row column = sum_by_push (λ (p : ℕ × ℕ). cond (eqb p.0 n && eqb p.1 m) 1 0) pairs (row, column)

one_or_none : (is : Bool) (row column : ℕ) → of_rows (cond is ((row, column) ∷ []) []) ≡ cond is (row ∷ []) []
one_or_none true row column = refl
one_or_none false row column = refl

-- the rows of a column, and of one pair more
pub column_push : (pairs : Pairs) (m row column : ℕ) → in_column m (pairs ++ (row, column) ∷ []) ≡ in_column m pairs
    ++ cond (eqb column m) (row ∷ []) []
column_push pairs m row column =
    ap of_rows (filter-append (λ (p : ℕ × ℕ). eqb p.1 m) pairs ((row, column) ∷ []))
    ∙ map-append (λ (p : ℕ × ℕ). p.0) (filter (λ (p : ℕ × ℕ). eqb p.1 m) pairs) (cond (eqb column m) ((row, column) ∷ []) [])
    ∙ ap (λ (ns : List ℕ). in_column m pairs ++ ns) (one_or_none (eqb column m) row column)

length_more : (is : Bool) (xs : List ℕ) (x : ℕ) → length (xs ++ cond is (x ∷ []) []) ≡ length xs + cond is 1 0
length_more true xs x = length_push xs x
length_more false xs x = rw (append-nil xs, add-zero (length xs)) refl

sum_more : (is : Bool) (xs : List ℕ) (x : ℕ) → sum (xs ++ cond is (x ∷ []) []) ≡ sum xs + cond is x 0
sum_more true xs x = sum_by_push (λ (n : ℕ). n) xs x
sum_more false xs x = rw (append-nil xs, add-zero (sum xs)) refl

-- the number at an index, where one grew
grown_at : (numbers : List ℕ) (a n amount : ℕ) → a < length numbers
    → get_or (with_more numbers a amount) n 0 ≡ get_or numbers n 0 + cond (eqb a n) amount 0
grown_at numbers a n amount lt =
    elim (cases_eq n a) [
      | inl same ↦ rw (eq-eqb a n (sym same)) (ap (λ (k : ℕ). get_or (set numbers a (get_or numbers a 0 + amount)) k 0) same
          ∙ get_or-set_same numbers a (get_or numbers a 0 + amount) 0 lt ∙ ap (λ (k : ℕ). get_or numbers k 0 + amount) (sym same))
      | inr other ↦ rw (ne_eqb a n (λ w. other (sym w)), add-zero) (get_or-set_other numbers a n (get_or numbers a 0 + amount) 0 other)
    ]

cells_push : (two : KeptTwo) (pairs : Pairs) (row column : ℕ) → CountsTwo two pairs → row < length two.of.counts → column < length two.column_deals
    → length two.cells ≡ length two.of.counts * length two.column_deals
    → (n m : ℕ) → n < length (with_answer two.of row).counts → m < length (with_more two.column_deals column 1)
    → cell_at (with_pair two row column) n m ≡ cell (pairs ++ (row, column) ∷ []) n m
cells_push two pairs row column h lt within area n m low left =
    let columns : ℕ = length two.column_deals in
    let same : length (with_more two.column_deals column 1) ≡ columns = length-set two.column_deals column (get_or two.column_deals column 0 + 1) in
    let rows : length (with_answer two.of row).counts ≡ length two.of.counts = length-set two.of.counts row (get_or two.of.counts row 0 + 1) in
    let below : m < columns = omega (arith, same, left) in
    let above : n < length two.of.counts = omega (arith, rows, low) in
    let inside : row * columns + column < length two.cells =
    omega (
      arith,
      area,
      mul-add-lt row columns column (length two.of.counts) lt within,
      mul_comm (length two.of.counts) columns,
    ) in
    ap (λ (k : ℕ). get_or (with_more two.cells (row * columns + column) 1) (n * k + m) 0) same
    ∙ grown_at two.cells (row * columns + column) (n * columns + m) 1 inside
    ∙ ap₂ (λ (x y : ℕ). x + y) (h.cells n m above below) (ap (λ (b : Bool). cond b 1 0) (one_cell n m row column columns below within))
    ∙ sym (cell_push pairs n m row column)

pub two_push : (two : KeptTwo) (pairs : Pairs) (row column : ℕ) → CountsTwo two pairs → row < length two.of.counts → column < length two.column_deals
    → length two.column_sums ≡ length two.column_deals → length two.cells ≡ length two.of.counts * length two.column_deals
    → CountsTwo (with_pair two row column) (pairs ++ (row, column) ∷ [])
two_push two pairs row column h lt within alike area = record {
  rows = subst (λ (ns : List ℕ). CountsOne (with_answer two.of row) ns) (sym (map-append (λ (p : ℕ × ℕ). p.0) pairs ((row, column) ∷ [])))
      (one_push two.of (of_rows pairs) row h.rows lt);
  sums = ap (λ (s : Sums). with_one s column) h.sums ∙ sums_push (of_columns pairs) column
      ∙ ap sums_of (sym (map-append (λ (p : ℕ × ℕ). p.1) pairs ((row, column) ∷ [])));
  cells = cells_push two pairs row column h lt within area;
  column_deals = list_grows (λ m. length (in_column m pairs))
      (λ m. length (in_column m (pairs ++ (row, column) ∷ []))) two.column_deals column 1 h.column_deals within
      (λ m. ap length (column_push pairs m row column) ∙ length_more (eqb column m) (in_column m pairs) row);
  column_sums = list_grows (λ m. sum (in_column m pairs)) (λ m. sum (in_column m (pairs ++ (row, column) ∷ [])))
      two.column_sums column row h.column_sums (omega arith)
      (λ m. ap sum (column_push pairs m row column) ∙ sum_more (eqb column m) (in_column m pairs) row);
}

pub two_counted : (two new : KeptTwo) (deal : List Seat) (deals : List (List Seat)) (row column : ℕ) → new ≡ with_pair two row column
    → row ≡ answer two.of.asked.question deal → column ≡ answer two.by.question deal
    → row < length two.of.counts → column < length two.column_deals
    → length two.column_sums ≡ length two.column_deals → length two.cells ≡ length two.of.counts * length two.column_deals
    → CountsTwo two (pairs_of two.of.asked.question two.by.question deals)
    → CountsTwo new (pairs_of two.of.asked.question two.by.question (deals ++ deal ∷ []))
two_counted two new deal deals row column is given too lt within alike area h =
    subst (λ (x : KeptTwo). CountsTwo x (pairs_of two.of.asked.question two.by.question (deals ++ deal ∷ []))) (sym is)
    (subst (λ (ps : Pairs). CountsTwo (with_pair two row column) ps)
    (ap₂ (λ (x y : ℕ). pairs_of two.of.asked.question two.by.question deals ++ (x, y) ∷ []) given too
    ∙ sym (map-append (λ (d : List Seat). (answer two.of.asked.question d, answer two.by.question d)) deals (deal ∷ [])))
    (two_push two (pairs_of two.of.asked.question two.by.question deals) row column h lt within alike area))
