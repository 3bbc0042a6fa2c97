-- The csv tables of two lists of deals, and of both.
use Rattle.std.proofs.Common.{◌≡◌, ◌⊎◌, ◌+◌, ◌-◌, ◌<◌, ◌≤◌, ◌&&◌, ◌++◌, ◌∷◌, ◌∙◌, ℕ, suc, zero, Bool, true, false}
use Rattle.std.proofs.Common.{cond, eqb, List, [], length, map, inl, inr, refl, sym, ap, ap₂, arith}
use Rattle.std.specs.Prelude.{codes, decimal}
use Rattle.std.specs.List.{enumerate_from, flat_map, range_with_len}
use Rattle.std.proofs.lemmas.Bool.{ne_eqb}
use Rattle.std.proofs.lemmas.Grind.{flat_map-append}
use Rattle.std.proofs.lemmas.List.{length-append, map-append}
use Rattle.std.proofs.lemmas.List.Sums.{sum_by-append, sum_by-cons}
use Rattle.boards.specs.declared.style.TableStyle.TheVariants.{Csv}
use Rattle.cards.specs.declared.seat.Seat.{Seat}
use Rattle.conditions.specs.Questions.{answer, is_condition}
use Rattle.statistics.specs.Answers.{answers_of, count_of, greatest_of, least_of, rows}
use Rattle.statistics.specs.Columns.{plain_label}
use Rattle.statistics.specs.Counting.{TitledQuestion, Subject, by_each, by_one, by_two, csv_text, deals_alone, kinds_of, pairs_of, part_of, parts_text}
use Rattle.statistics.specs.Csv.{csv_cell, csv_counts, csv_numbered, csv_numbered_row, csv_one, csv_row, csv_total, csv_two}
use Rattle.statistics.specs.Shards.{AddUp, Line, LinesAddUp, PartsAddUp, counted}
use Rattle.statistics.specs.TwoQuestions.{Kinds, Pairs, cell, columns, of_columns, of_rows}
use Rattle.statistics.proofs.Adding.{AreIn, count_of-append, from_least, least_is_less}

-- ---- a table in which each number up to some has a place

nothing : (f : ℕ → List ℕ) (ns : List ℕ) → ((n : ℕ) → f n ≡ []) → flat_map f ns ≡ []
nothing f [] none = refl
nothing f (n ∷ ns) none = ap₂ (λ (x y : List ℕ). x ++ y) (none n) (nothing f ns none)

along : (f g : ℕ → List ℕ) (ns : List ℕ) → ((n : ℕ) → f n ≡ g n) → flat_map f ns ≡ flat_map g ns
along f g [] same = refl
along f g (n ∷ ns) same = ap₂ (λ (x y : List ℕ). x ++ y) (same n) (along f g ns same)

-- numbers before a range, and after it
before : (f : ℕ → List ℕ) (j a n : ℕ) → ((k : ℕ) → k < j + a → f k ≡ [])
    → flat_map f (range_with_len j (a + n)) ≡ flat_map f (range_with_len (j + a) n)
before f j zero n none =
    let e : zero + n ≡ n = omega arith in
    let g : j + zero ≡ j = omega arith in
    rw (e, g) refl
before f j (suc a) n none =
    let s : suc a + n ≡ suc (a + n) = omega arith in
    let e : j + 1 + a ≡ j + suc a = omega arith in
    rw s (ap₂ (λ (x y : List ℕ). x ++ y) (none j (omega arith)) (before f (j + 1) a n (λ k h. none k (omega (arith, h))))
    ∙ ap (λ (i : ℕ). flat_map f (range_with_len i n)) e)

after : (f : ℕ → List ℕ) (j n r : ℕ) → ((k : ℕ) → j + n ≤ k → f k ≡ []) → flat_map f (range_with_len j (n + r)) ≡ flat_map f (range_with_len j n)
after f j zero zero none = refl
after f j zero (suc r) none =
    let s : zero + suc r ≡ suc (zero + r) = omega arith in
    rw s (ap₂ (λ (x y : List ℕ). x ++ y) (none j (omega arith)) (after f (j + 1) zero r (λ k h. none k (omega (arith, h)))))
after f j (suc n) r none =
    let s : suc n + r ≡ suc (n + r) = omega arith in
    rw s (ap (λ (l : List ℕ). f j ++ l) (after f (j + 1) n r (λ k h. none k (omega (arith, h)))))

widened : (f : ℕ → List ℕ) (a n N : ℕ) → a + n ≤ N → ((k : ℕ) → (k < a) ⊎ (a + n ≤ k) → f k ≡ [])
    → flat_map f (range_with_len a n) ≡ flat_map f (range_with_len 0 N)
widened f a n N fits none =
    let e : a + n + (N - (a + n)) ≡ N = omega (arith, fits) in
    let g : 0 + a ≡ a = omega arith in
    sym (
    ap (λ (l : ℕ). flat_map f (range_with_len 0 l)) (sym e)
    ∙ after f 0 (a + n) (N - (a + n)) (λ k h. none k (inr (omega (arith, h))))
    ∙ before f 0 a n (λ k h. none k (inl (omega (arith, h))))
    ∙ ap (λ (i : ℕ). flat_map f (range_with_len i n)) g)

-- no number is among the answers that is out of their range
absent : (n first end : ℕ) (answers : List ℕ) → AreIn first end answers → (n < first) ⊎ (end ≤ n) → count_of n answers ≡ 0
absent n first end [] in_them out = refl
absent n first end (a ∷ answers) in_them out =
    let above : first ≤ a = in_them.0 in
    let below : a < end = in_them.1 in
    sum_by-cons (λ (x : ℕ). cond (eqb x n) 1 0) a answers
    ∙ ap₂ (λ (b : Bool) (s : ℕ). cond b 1 0 + s) (ne_eqb a n
    (λ e. absurd (elim out [ inl l ↦ omega (arith, e, l, above) | inr l ↦ omega (arith, e, l, below) ])))
    (absent n first end answers in_them.2 out)

-- the numbers of a table: `no` and `yes`, or all up to some
abbrev wide : Bool → ℕ → List ℕ
wide true N = range_with_len 0 2
wide false N = range_with_len 0 N

rows_widened : (c : Bool) (f : ℕ → List ℕ) (answers : List ℕ) (N : ℕ) → greatest_of answers + 1 ≤ N
    → ((k : ℕ) → count_of k answers ≡ 0 → f k ≡ []) → flat_map f (rows c answers) ≡ flat_map f (wide c N)
rows_widened true f answers N fits none = refl
rows_widened false f answers N fits none =
    let l = least_is_less answers in
    let e : least_of answers + (greatest_of answers + 1 - least_of answers) ≡ greatest_of answers + 1 = omega (arith, l) in
    widened f (least_of answers) (greatest_of answers + 1 - least_of answers) N (omega (arith, e, fits))
    (λ k out. none k (absent k (least_of answers) (greatest_of answers + 1) answers (from_least answers)
    (elim out [ inl h ↦ inl h | inr h ↦ inr (omega (arith, e, h)) ])))

-- ---- one question

over_map : (f : Line → List ℕ) (g : ℕ → Line) (ns : List ℕ) → flat_map f (map g ns) ≡ flat_map (λ n. f (g n)) ns
over_map f g [] = refl
over_map f g (n ∷ ns) = ap (λ (l : List ℕ). f (g n) ++ l) (over_map f g ns)

abbrev one_head : List ℕ
one_head = codes "value,deals\n"

one_wide : (c : Bool) (xs : List ℕ) (N : ℕ) → greatest_of xs + 1 ≤ N
    → csv_one c xs ≡ one_head ++ flat_map (λ n. csv_row c n (count_of n xs)) (wide c N)
unfolding csv_one
one_wide c xs N fits = ap (λ (l : List ℕ). one_head ++ l)
    (rows_widened c (λ n. csv_row c n (count_of n xs)) xs N fits (λ k zero. ap (csv_row c k) zero))

one_adds : (c : Bool) (xs ys : List ℕ) → LinesAddUp (csv_one c xs) (csv_one c ys) (csv_one c (xs ++ ys))
one_adds c xs ys = record {
  head = one_head;
  lines = map line (wide c N);
  one_is = one_wide c xs N (omega arith) ∙ ap (λ (l : List ℕ). one_head ++ l) (sym (over_map (λ l. counted l.label l.one) line (wide c N)));
  two_is = one_wide c ys N (omega arith) ∙ ap (λ (l : List ℕ). one_head ++ l) (sym (over_map (λ l. counted l.label l.two) line (wide c N)));
  both_is = one_wide c (xs ++ ys) N (omega arith)
      ∙ ap (λ (l : List ℕ). one_head ++ l) (along (λ n. csv_row c n (count_of n (xs ++ ys)))
      (λ n. csv_row c n (count_of n xs + count_of n ys)) (wide c N) (λ n. ap (csv_row c n) (count_of-append n xs ys))
      ∙ sym (over_map (λ l. counted l.label (l.one + l.two)) line (wide c N)));
}
  where
    N : ℕ
    N = (greatest_of xs + 1) + (greatest_of ys + 1) + (greatest_of (xs ++ ys) + 1)

    line : ℕ → Line
    line n = record { label = plain_label c n; one = count_of n xs; two = count_of n ys }

-- ---- two questions

cell-append : (p q : Pairs) (n m : ℕ) → cell (p ++ q) n m ≡ cell p n m + cell q n m
cell-append p q n m = sum_by-append (λ (a : ℕ × ℕ). cond (eqb a.0 n && eqb a.1 m) 1 0) p q

-- a cell has no more deals than its row and its column
no_more : (a b : Bool) (x y : ℕ) → x ≤ y → (cond (a && b) 1 0 + x ≤ cond a 1 0 + y) × (cond (a && b) 1 0 + x ≤ cond b 1 0 + y)
no_more true true x y h = (omega (arith, h), omega (arith, h))
no_more true false x y h = (omega (arith, h), omega (arith, h))
no_more false true x y h = (omega (arith, h), omega (arith, h))
no_more false false x y h = (omega (arith, h), omega (arith, h))

in_row : (p : Pairs) (n m : ℕ) → cell p n m ≤ count_of n (of_rows p)
in_row [] n m = omega arith
in_row (a ∷ p) n m =
    let c = sum_by-cons (λ (x : ℕ × ℕ). cond (eqb x.0 n && eqb x.1 m) 1 0) a p in
    let d = sum_by-cons (λ (x : ℕ). cond (eqb x n) 1 0) a.0 (of_rows p) in
    let e = (no_more (eqb a.0 n) (eqb a.1 m) (cell p n m) (count_of n (of_rows p)) (in_row p n m)).0 in
    rw (c, d) e

in_its_column : (p : Pairs) (n m : ℕ) → cell p n m ≤ count_of m (of_columns p)
in_its_column [] n m = omega arith
in_its_column (a ∷ p) n m =
    let c = sum_by-cons (λ (x : ℕ × ℕ). cond (eqb x.0 n && eqb x.1 m) 1 0) a p in
    let d = sum_by-cons (λ (x : ℕ). cond (eqb x m) 1 0) a.1 (of_columns p) in
    let e = (no_more (eqb a.0 n) (eqb a.1 m) (cell p n m) (count_of m (of_columns p)) (in_its_column p n m)).1 in
    rw (c, d) e

none_of_none : (x y : ℕ) → x ≤ y → y ≡ 0 → x ≡ 0
none_of_none x y h e = omega (arith, h, e)

abbrev two_head : List ℕ
two_head = codes "value,by,deals\n"

abbrev all_cells : Kinds → ℕ → ℕ → (ℕ → ℕ → List ℕ) → List ℕ
all_cells kinds N M f = flat_map (λ n. flat_map (f n) (wide kinds.by_condition M)) (wide kinds.of_condition N)

two_wide : (kinds : Kinds) (p : Pairs) (N M : ℕ) → greatest_of (of_rows p) + 1 ≤ N → greatest_of (of_columns p) + 1 ≤ M
    → csv_two kinds p ≡ two_head ++ all_cells kinds N M (λ n m. csv_cell kinds n m (cell p n m))
unfolding csv_two
two_wide kinds p N M fits_rows fits_columns = ap (λ (l : List ℕ). two_head ++ l) (
    along (λ n. flat_map (λ m. csv_cell kinds n m (cell p n m)) (columns kinds p))
    (λ n. flat_map (λ m. csv_cell kinds n m (cell p n m)) (wide kinds.by_condition M))
    (rows kinds.of_condition (of_rows p))
    (λ n. rows_widened kinds.by_condition (λ m. csv_cell kinds n m (cell p n m)) (of_columns p) M fits_columns
    (λ m zero. ap (csv_cell kinds n m) (none_of_none (cell p n m) (count_of m (of_columns p)) (in_its_column p n m) zero)))
    ∙ rows_widened kinds.of_condition (λ n. flat_map (λ m. csv_cell kinds n m (cell p n m)) (wide kinds.by_condition M)) (of_rows p) N fits_rows
    (λ n zero. nothing (λ m. csv_cell kinds n m (cell p n m)) (wide kinds.by_condition M)
    (λ m. ap (csv_cell kinds n m) (none_of_none (cell p n m) (count_of n (of_rows p)) (in_row p n m) zero))))

abbrev two_label : Kinds → ℕ → ℕ → List ℕ
two_label kinds n m = plain_label kinds.of_condition n ++ codes "," ++ plain_label kinds.by_condition m

cell_counted : (kinds : Kinds) (n m count : ℕ) → csv_cell kinds n m count ≡ counted (two_label kinds n m) count
cell_counted kinds n m count = refl

over_flat_map : (f : Line → List ℕ) (g : ℕ → List Line) (ns : List ℕ) → flat_map f (flat_map g ns) ≡ flat_map (λ n. flat_map f (g n)) ns
over_flat_map f g [] = refl
over_flat_map f g (n ∷ ns) = flat_map-append f (g n) (flat_map g ns) ∙ ap (λ (l : List ℕ). flat_map f (g n) ++ l) (over_flat_map f g ns)

-- the cells with these counts are lines with the same
cells_are_lines : (kinds : Kinds) (N M : ℕ) (count : ℕ → ℕ → ℕ) (f : Line → List ℕ) (line : ℕ → ℕ → Line)
    → ((n m : ℕ) → csv_cell kinds n m (count n m) ≡ f (line n m))
    → all_cells kinds N M (λ n m. csv_cell kinds n m (count n m)) ≡ flat_map f
    (flat_map (λ n. map (line n) (wide kinds.by_condition M)) (wide kinds.of_condition N))
cells_are_lines kinds N M count f line same =
    along (λ n. flat_map (λ m. csv_cell kinds n m (count n m)) (wide kinds.by_condition M))
    (λ n. flat_map f (map (line n) (wide kinds.by_condition M))) (wide kinds.of_condition N)
    (λ n. along (λ m. csv_cell kinds n m (count n m)) (λ m. f (line n m)) (wide kinds.by_condition M) (same n)
    ∙ sym (over_map f (line n) (wide kinds.by_condition M)))
    ∙ sym (over_flat_map f (λ n. map (line n) (wide kinds.by_condition M)) (wide kinds.of_condition N))

two_adds : (kinds : Kinds) (p q : Pairs) → LinesAddUp (csv_two kinds p) (csv_two kinds q) (csv_two kinds (p ++ q))
two_adds kinds p q = record {
  head = two_head;
  lines = flat_map (λ n. map (line n) (wide kinds.by_condition M)) (wide kinds.of_condition N);
  one_is = two_wide kinds p N M (omega arith) (omega arith)
      ∙ ap (λ (l : List ℕ). two_head ++ l) (cells_are_lines kinds N M (cell p) (λ l. counted l.label l.one) line
      (λ n m. cell_counted kinds n m (cell p n m)));
  two_is = two_wide kinds q N M (omega arith) (omega arith)
      ∙ ap (λ (l : List ℕ). two_head ++ l) (cells_are_lines kinds N M (cell q) (λ l. counted l.label l.two) line
      (λ n m. cell_counted kinds n m (cell q n m)));
  both_is = two_wide kinds (p ++ q) N M (omega arith) (omega arith)
      ∙ ap (λ (l : List ℕ). two_head ++ l) (cells_are_lines kinds N M (cell (p ++ q)) (λ l. counted l.label (l.one + l.two)) line
      (λ n m. ap (csv_cell kinds n m) (cell-append p q n m) ∙ cell_counted kinds n m (cell p n m + cell q n m)));
}
  where
    N : ℕ
    N = (greatest_of (of_rows p) + 1) + (greatest_of (of_rows q) + 1) + (greatest_of (of_rows (p ++ q)) + 1)

    M : ℕ
    M = (greatest_of (of_columns p) + 1) + (greatest_of (of_columns q) + 1) + (greatest_of (of_columns (p ++ q)) + 1)

    line : ℕ → ℕ → Line
    line n m = record { label = two_label kinds n m; one = cell p n m; two = cell q n m }

-- ---- several questions

numbered_line : ℕ → Bool → List ℕ → List ℕ → ℕ → Line
numbered_line k c xs ys n = record { label = decimal k ++ codes "," ++ plain_label c n; one = count_of n xs; two = count_of n ys }

one_numbered : (k : ℕ) (c : Bool) (xs : List ℕ) (N : ℕ) → greatest_of xs + 1 ≤ N
    → csv_numbered k c xs ≡ flat_map (λ n. csv_numbered_row k c n (count_of n xs)) (wide c N)
unfolding csv_numbered
one_numbered k c xs N fits = rows_widened c (λ n. csv_numbered_row k c n (count_of n xs)) xs N fits (λ n zero. ap (csv_numbered_row k c n) zero)

-- greater than all answers of both
abbrev beyond : List ℕ → List ℕ → ℕ
beyond xs ys = (greatest_of xs + 1) + (greatest_of ys + 1) + (greatest_of (xs ++ ys) + 1)

question_lines : ℕ → Bool → List ℕ → List ℕ → List Line
question_lines k c xs ys = map (numbered_line k c xs ys) (wide c (beyond xs ys))

in_first : (k : ℕ) (c : Bool) (xs ys : List ℕ) → csv_numbered k c xs ≡ flat_map (λ l. counted l.label l.one) (question_lines k c xs ys)
unfolding question_lines numbered_line
in_first k c xs ys = one_numbered k c xs (beyond xs ys) (omega arith)
    ∙ sym (over_map (λ l. counted l.label l.one) (numbered_line k c xs ys) (wide c (beyond xs ys)))

in_second : (k : ℕ) (c : Bool) (xs ys : List ℕ) → csv_numbered k c ys ≡ flat_map (λ l. counted l.label l.two) (question_lines k c xs ys)
unfolding question_lines numbered_line
in_second k c xs ys = one_numbered k c ys (beyond xs ys) (omega arith)
    ∙ sym (over_map (λ l. counted l.label l.two) (numbered_line k c xs ys) (wide c (beyond xs ys)))

in_both : (k : ℕ) (c : Bool) (xs ys : List ℕ) → csv_numbered k c (xs ++ ys) ≡ flat_map
    (λ l. counted l.label (l.one + l.two)) (question_lines k c xs ys)
unfolding question_lines numbered_line
in_both k c xs ys =
    one_numbered k c (xs ++ ys) (beyond xs ys) (omega arith)
    ∙ along (λ n. csv_numbered_row k c n (count_of n (xs ++ ys)))
    (λ n. csv_numbered_row k c n (count_of n xs + count_of n ys)) (wide c (beyond xs ys))
    (λ n. ap (csv_numbered_row k c n) (count_of-append n xs ys))
    ∙ sym (over_map (λ l. counted l.label (l.one + l.two)) (numbered_line k c xs ys) (wide c (beyond xs ys)))

-- the lines of all questions, numbered from k on
lines_of : ℕ → List TitledQuestion → (deals more : List (List Seat)) → List Line
lines_of k [] deals more = []
lines_of k (a ∷ asked) deals more =
    question_lines k (is_condition a.question) (answers_of a.question deals) (answers_of a.question more) ++ lines_of (k + 1) asked deals more

parts_are : (k : ℕ) (asked : List TitledQuestion) (deals more told : List (List Seat)) (f : Line → List ℕ)
    → ((j : ℕ) (a : TitledQuestion) → csv_numbered j (is_condition a.question) (answers_of a.question told) ≡ flat_map f
    (question_lines j (is_condition a.question) (answers_of a.question deals) (answers_of a.question more)))
    → flat_map (part_of Csv told) (enumerate_from k asked) ≡ flat_map f (lines_of k asked deals more)
unfolding lines_of
parts_are k [] deals more told f same = refl
parts_are k (a ∷ asked) deals more told f same =
    ap₂ (λ (x y : List ℕ). x ++ y) (same k a) (parts_are (k + 1) asked deals more told f same)
    ∙ sym (flat_map-append f (question_lines k (is_condition a.question) (answers_of a.question deals)
    (answers_of a.question more)) (lines_of (k + 1) asked deals more))

each_adds : (asked : List TitledQuestion) (deals more : List (List Seat)) (m n : ℕ)
    → PartsAddUp (csv_counts (length deals) m ++ parts_text Csv asked deals) (csv_counts (length more) n ++ parts_text Csv asked more)
    (csv_counts (length (deals ++ more)) (m + n) ++ parts_text Csv asked (deals ++ more))
each_adds asked deals more m n = record {
  deals = (length deals, length more);
  tried = (m, n);
  lines = lines_of 1 asked deals more;
  one_is = ap (λ (l : List ℕ). csv_counts (length deals) m ++ l) (parts_are 1 asked deals more deals (λ l. counted l.label l.one)
      (λ j a. in_first j (is_condition a.question) (answers_of a.question deals) (answers_of a.question more)));
  two_is = ap (λ (l : List ℕ). csv_counts (length more) n ++ l) (parts_are 1 asked deals more more (λ l. counted l.label l.two)
      (λ j a. in_second j (is_condition a.question) (answers_of a.question deals) (answers_of a.question more)));
  both_is = ap₂ (λ (k : ℕ) (l : List ℕ). csv_counts k (m + n) ++ l) (length-append deals more)
      (parts_are 1 asked deals more (deals ++ more) (λ l. counted l.label (l.one + l.two))
      (λ j a. ap (csv_numbered j (is_condition a.question)) (map-append (answer a.question) deals more)
      ∙ in_both j (is_condition a.question) (answers_of a.question deals) (answers_of a.question more)));
}

-- ---- all subjects

pub adds_up : (subject : Subject) (deals more : List (List Seat)) (m n : ℕ)
    → AddUp subject (csv_text subject deals m) (csv_text subject more n) (csv_text subject (deals ++ more) (m + n))
unfolding csv_text
adds_up deals_alone deals more m n = record {
  deals = (length deals, length more);
  tried = (m, n);
  one_is = refl;
  two_is = refl;
  both_is = ap (λ (l : ℕ). csv_total l (m + n)) (length-append deals more);
}
adds_up (by_one asked) deals more m n =
    rw (map-append (answer asked.question) deals more) (one_adds (is_condition asked.question)
    (answers_of asked.question deals) (answers_of asked.question more))
adds_up (by_two of by) deals more m n =
    rw (map-append {B = ℕ × ℕ} (λ (deal : List Seat). (answer of.question deal, answer by.question deal)) deals more)
    (two_adds (kinds_of of by) (pairs_of of.question by.question deals) (pairs_of of.question by.question more))
adds_up (by_each asked) deals more m n = each_adds asked deals more m n
