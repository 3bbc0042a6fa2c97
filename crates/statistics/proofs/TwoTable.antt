-- The table of what is kept of two questions is that of the pairs.
use Rattle.std.proofs.Common.{◌≡◌, ◌<◌, ◌≤◌, ◌++◌, ◌∙◌, ℕ, List, [], length, max, sum, refl, sym, ap, ap₂, subst}
use Rattle.std.proofs.Common.{arith, codes, append_assoc, if◌then◌else◌}
use Rattle.std.specs.List.{flat_map}
use Rattle.std.proofs.lemmas.List.{append-nil, length-map}
use Rattle.conditions.specs.Questions.{is_condition, rows_of}
use Rattle.statistics.specs.declared.line_style.LineStyle.TheVariants.{Csv, Table}
use Rattle.statistics.specs.declared.sums.Sums.{Sums}
use Rattle.statistics.specs.declared.two.table.Line.{Line}
use Rattle.statistics.specs.declared.two.table.Line.TheVariants.{All, CsvRow, Header, Mean, Row}
use Rattle.statistics.specs.Answers.{count_of, rows}
use Rattle.statistics.specs.Columns.{label, or_dash, right}
use Rattle.statistics.specs.Csv.{csv_cell, csv_two}
use Rattle.statistics.specs.OneQuestion.{first_width}
use Rattle.statistics.specs.TwoQuestions.{Kinds, Pairs, all_line, all_width, cell, column_width, columns, header_line}
use Rattle.statistics.specs.TwoQuestions.{in_column, line, mean_line, mean_or_dash, of_columns, of_rows, row_line}
use Rattle.statistics.specs.TwoQuestions.{two_table}
use Rattle.statistics.specs.internal.Kept.{CountsTwo, IsKeptTwo, IsListOf, KeptTwo, cell_at, sums_of}
use Rattle.statistics.specs.internal.Lines.{all_kept, bottom_kept, cell_piece, cell_text, cells_kept, column_kept}
use Rattle.statistics.specs.internal.Lines.{end_piece, first_text, kinds_kept, last_text, line_text, start_piece}
use Rattle.statistics.specs.internal.Lines.{title_line, top_kept, two_row, two_text}
use Rattle.statistics.specs.internal.PageLines.{columns_of_two}
use Rattle.statistics.specs.internal.Texts.{numbers_in, rows_of_one, rows_shown}
use Rattle.statistics.proofs.Alike.{end_within, flat_map_alike, same_rows}
use Rattle.statistics.proofs.OneTable.{within_one}

-- the same, where the sums are those of the pairs
abbrev pub with_sums : KeptTwo → Sums → Sums → KeptTwo
with_sums two s t = record {
  of = record { asked = two.of.asked; sums = s; counts = two.of.counts };
  by = two.by;
  by_sums = t;
  cells = two.cells;
  column_deals = two.column_deals;
  column_sums = two.column_sums;
}

abbrev pub told : KeptTwo → Pairs → KeptTwo
told two pairs = with_sums two (sums_of (of_rows pairs)) (sums_of (of_columns pairs))

-- what the cells and columns are, where the numbers are those of rows and columns
pub record Tells (two : KeptTwo) (pairs : Pairs) : Type 0 where
  pub rows : (rows_of_one (told two pairs).of).end ≤ length two.of.counts
  pub columns : (columns_of_two (told two pairs)).end ≤ length two.column_deals
  pub alike : length two.column_sums ≡ length two.column_deals
  pub counts : IsListOf (λ n. count_of n (of_rows pairs)) two.of.counts
  pub cells : (n m : ℕ) → n < length two.of.counts → m < length two.column_deals → cell_at two n m ≡ cell pairs n m
  pub deals : IsListOf (λ m. length (in_column m pairs)) two.column_deals
  pub totals : IsListOf (λ m. sum (in_column m pairs)) two.column_sums

abbrev kinds_of_two : KeptTwo → Kinds
kinds_of_two two = kinds_kept two

joined : (x a b c : List ℕ) → x ++ (a ++ b ++ c) ≡ x ++ a ++ b ++ c
joined x a b c = sym (append_assoc x (a ++ b) c) ∙ ap (λ (y : List ℕ). y ++ c) (sym (append_assoc x a b))

column_is : (two : KeptTwo) (pairs : Pairs) (m : ℕ) → Tells two pairs → m < length two.column_deals
    → column_kept (told two pairs) m ≡ column_width (kinds_kept two) pairs m
unfolding column_kept
column_is two pairs m h lt =
    ap₂ (λ (d t : ℕ). max (length (label (is_condition two.by.question) m)) (cells_kept (is_condition two.of.asked.question) d t))
    (h.deals m lt) (h.totals m (omega (arith, h.alike)))

-- a line, by its parts
line_is : (two : KeptTwo) (pairs : Pairs) (which : Line) (first : List ℕ) (text : ℕ → List ℕ) (last : List ℕ) → Tells two pairs
    → start_piece (told two pairs) which ≡ right (first_width (is_condition two.of.asked.question) (of_rows pairs)) first
    → ((m : ℕ) → m < length two.column_deals → cell_piece (told two pairs) which m ≡ codes "  " ++ right (column_kept (told two pairs) m) (text m))
    → end_piece (told two pairs) which ≡ codes "  " ++ right (all_width (kinds_kept two) pairs) last ++ codes "\n"
    → line_text (told two pairs) which ≡ line (kinds_kept two) pairs first text last
unfolding line_text
line_is two pairs which first text last h begins has ends =
    ap (λ (z : List ℕ). start_piece (told two pairs) which
    ++ flat_map (cell_piece (told two pairs) which) (numbers_in (columns_of_two (told two pairs))) ++ z) ends
    ∙ ap₂ (λ (x y : List ℕ). x ++ y ++ (codes "  " ++ right (all_width (kinds_kept two) pairs) last ++ codes "\n")) begins
    (flat_map_alike (cell_piece (told two pairs) which) (λ (m : ℕ). codes "  "
    ++ right (column_width (kinds_kept two) pairs m) (text m)) (columns_of_two (told two pairs))
    (λ m lt. has m (omega (arith, h.columns)) ∙ ap (λ (w : ℕ). codes "  " ++ right w (text m)) (column_is two pairs m h (omega (arith, h.columns))))
    ∙ ap (flat_map (λ (m : ℕ). codes "  " ++ right (column_width (kinds_kept two) pairs m) (text m)))
    (same_rows (is_condition two.by.question) (of_columns pairs)))
    ∙ joined _ (codes "  ") (right (all_width (kinds_kept two) pairs) last) (codes "\n")

header_is : (two : KeptTwo) (pairs : Pairs) → Tells two pairs → line_text (told two pairs) Header ≡ header_line (kinds_kept two) pairs
unfolding header_line start_piece cell_piece end_piece first_text cell_text last_text all_kept
header_is two pairs h = line_is two pairs Header (codes "value") (λ (m : ℕ). label (is_condition two.by.question) m)
    (codes "all") h refl (λ m lt. refl) refl

row_is : (two : KeptTwo) (pairs : Pairs) (n : ℕ) → Tells two pairs → n < length two.of.counts
    → line_text (told two pairs) (Row n) ≡ row_line (kinds_kept two) pairs n
unfolding row_line start_piece cell_piece end_piece first_text cell_text last_text all_kept
row_is two pairs n h low =
    line_is two pairs (Row n) (label (is_condition two.of.asked.question) n) (λ (m : ℕ). or_dash (cell pairs n m))
    (or_dash (count_of n (of_rows pairs))) h refl
    (λ m lt. ap (λ (c : ℕ). codes "  " ++ right (column_kept (told two pairs) m) (or_dash c)) (h.cells n m low lt))
    (ap (λ (c : ℕ). codes "  " ++ right (all_width (kinds_kept two) pairs) (or_dash c) ++ codes "\n") (h.counts n low))

all_is : (two : KeptTwo) (pairs : Pairs) → Tells two pairs → line_text (told two pairs) All ≡ all_line (kinds_kept two) pairs
unfolding all_line start_piece cell_piece end_piece first_text cell_text last_text all_kept
all_is two pairs h =
    line_is two pairs All (codes "all") (λ (m : ℕ). or_dash (length (in_column m pairs))) (or_dash (length pairs)) h refl
    (λ m lt. ap (λ (c : ℕ). codes "  " ++ right (column_kept (told two pairs) m) (or_dash c)) (h.deals m lt))
    (ap (λ (c : ℕ). codes "  " ++ right (all_width (kinds_kept two) pairs) (or_dash c) ++ codes "\n") (length-map pairs (λ (p : ℕ × ℕ). p.0)))

mean_is : (two : KeptTwo) (pairs : Pairs) → Tells two pairs → line_text (told two pairs) Mean ≡ mean_line (kinds_kept two) pairs
unfolding mean_line start_piece cell_piece end_piece first_text cell_text last_text all_kept
mean_is two pairs h =
    line_is two pairs Mean (codes "mean") (λ (m : ℕ). mean_or_dash (length (in_column m pairs)) (sum (in_column m pairs)))
    (mean_or_dash (length (of_rows pairs)) (sum (of_rows pairs))) h refl
    (λ m lt. ap₂ (λ (c t : ℕ). codes "  " ++ right (column_kept (told two pairs) m) (mean_or_dash c t)) (h.deals m lt)
    (h.totals m (omega (arith, h.alike))))
    refl

csv_row_is : (two : KeptTwo) (pairs : Pairs) (n : ℕ) → Tells two pairs → n < length two.of.counts
    → line_text (told two pairs) (CsvRow n) ≡ flat_map (λ m. csv_cell (kinds_kept two) n m (cell pairs n m)) (columns (kinds_kept two) pairs)
unfolding line_text start_piece cell_piece end_piece cell_text
csv_row_is two pairs n h low =
    append-nil _
    ∙ flat_map_alike (cell_piece (told two pairs) (CsvRow n))
    (λ (m : ℕ). csv_cell (kinds_kept two) n m (cell pairs n m)) (columns_of_two (told two pairs))
    (λ m lt. ap (csv_cell (kinds_kept two) n m) (h.cells n m low (omega (arith, h.columns))))
    ∙ ap (flat_map (λ (m : ℕ). csv_cell (kinds_kept two) n m (cell pairs n m))) (same_rows (is_condition two.by.question) (of_columns pairs))

table_is : (two : KeptTwo) (pairs : Pairs) → Tells two pairs
    → two_text (told two pairs) Table ≡ two_table (kinds_kept two) two.of.asked.title two.by.title pairs
unfolding two_text top_kept bottom_kept title_line two_table
table_is two pairs h =
    sym (append_assoc (codes "\n" ++ two.of.asked.title ++ codes " by " ++ two.by.title ++ codes "\n" ++ line_text (told two pairs) Header
    ++ flat_map (two_row (told two pairs) Table) (numbers_in (rows_of_one (told two pairs).of)))
    (line_text (told two pairs) All) (if is_condition two.of.asked.question then [] else line_text (told two pairs)
    Mean))
    ∙ ap₂ (λ (x y : List ℕ). x ++ line_text (told two pairs) All ++ (if is_condition two.of.asked.question then [] else y))
    (ap₂ (λ (x y : List ℕ). codes "\n" ++ two.of.asked.title ++ codes " by " ++ two.by.title ++ codes "\n" ++ x ++ y) (header_is two pairs h)
    (flat_map_alike (two_row (told two pairs) Table) (row_line (kinds_kept two) pairs) (rows_of_one (told two pairs).of)
    (λ n lt. row_is two pairs n h (omega (arith, h.rows)))
    ∙ ap (flat_map (row_line (kinds_kept two) pairs)) (same_rows (is_condition two.of.asked.question) (of_rows pairs))))
    (mean_is two pairs h)
    ∙ ap (λ (x : List ℕ). codes "\n" ++ two.of.asked.title ++ codes " by " ++ two.by.title ++ codes "\n" ++ header_line (kinds_kept two) pairs
    ++ flat_map (row_line (kinds_kept two) pairs) (rows (is_condition two.of.asked.question) (of_rows pairs)) ++ x
    ++ (if is_condition two.of.asked.question then [] else mean_line (kinds_kept two) pairs)) (all_is two pairs h)

csv_is : (two : KeptTwo) (pairs : Pairs) → Tells two pairs → two_text (told two pairs) Csv ≡ csv_two (kinds_kept two) pairs
unfolding two_text top_kept bottom_kept csv_two
csv_is two pairs h =
    append-nil _
    ∙ ap (λ (xs : List ℕ). codes "value,by,deals\n" ++ xs)
    (flat_map_alike (two_row (told two pairs) Csv) (λ (n : ℕ). flat_map
    (λ (m : ℕ). csv_cell (kinds_kept two) n m (cell pairs n m)) (columns (kinds_kept two) pairs))
    (rows_of_one (told two pairs).of)
    (λ n lt. csv_row_is two pairs n h (omega (arith, h.rows)))
    ∙ ap (flat_map (λ (n : ℕ). flat_map (λ (m : ℕ). csv_cell (kinds_kept two) n m (cell pairs n m))
    (columns (kinds_kept two) pairs))) (same_rows (is_condition two.of.asked.question) (of_rows pairs)))

pub told_is : (two : KeptTwo) (pairs : Pairs) → CountsTwo two pairs → told two pairs ≡ two
told_is two pairs h = ap₂ (λ (s t : Sums). with_sums two s t) (sym h.rows.sums) (sym h.sums)

pub tells : (two : KeptTwo) (pairs : Pairs) → IsKeptTwo two → CountsTwo two pairs → Tells two pairs
tells two pairs kept h =
    let rows : (rows_of_one (told two pairs).of).end ≤ length two.of.counts =
    subst (λ (s : Sums). (rows_shown (is_condition two.of.asked.question) s).end ≤ length two.of.counts) h.rows.sums
    (within_one two.of.asked two.of.counts two.of.sums kept.rows) in
    let most : two.by_sums.greatest < rows_of two.by.question = omega (arith, kept.within, kept.columns) in
    let before : (rows_shown (is_condition two.by.question) two.by_sums).end ≤ length two.column_deals =
    omega (arith, end_within two.by.question two.by_sums most, kept.columns) in
    record {
      rows = rows;
      columns = subst (λ (s : Sums). (rows_shown (is_condition two.by.question) s).end ≤ length two.column_deals) h.sums before;
      alike = kept.alike;
      counts = h.rows.counts;
      cells = h.cells;
      deals = h.column_deals;
      totals = h.column_sums;
    }

pub two_table_is : (two : KeptTwo) (pairs : Pairs) → IsKeptTwo two → CountsTwo two pairs
    → two_text two Table ≡ two_table (kinds_kept two) two.of.asked.title two.by.title pairs
two_table_is two pairs kept h = ap (λ (t : KeptTwo). two_text t Table) (sym (told_is two pairs h)) ∙ table_is two pairs (tells two pairs kept h)

pub two_csv_is : (two : KeptTwo) (pairs : Pairs) → IsKeptTwo two → CountsTwo two pairs → two_text two Csv ≡ csv_two (kinds_kept two) pairs
two_csv_is two pairs kept h = ap (λ (t : KeptTwo). two_text t Csv) (sym (told_is two pairs h)) ∙ csv_is two pairs (tells two pairs kept h)
