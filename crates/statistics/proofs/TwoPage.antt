-- The page of what is kept of two questions is that of the pairs.
use Rattle.std.proofs.Common.{◌≡◌, ◌<◌, ◌++◌, ◌∙◌, ℕ, List, [], fold, length, map, max, sum, refl, sym, ap, ap₂}
use Rattle.std.proofs.Common.{arith, codes, append_assoc, if◌then◌else◌}
use Rattle.std.specs.List.{flat_map}
use Rattle.std.proofs.lemmas.List.{length-map}
use Rattle.conditions.specs.Questions.{is_condition}
use Rattle.statistics.specs.declared.line_style.LineStyle.TheVariants.{Html}
use Rattle.statistics.specs.declared.two.page.PageLine.{PageLine}
use Rattle.statistics.specs.declared.two.page.PageLine.TheVariants.{Cells, Heads, Means, Totals}
use Rattle.statistics.specs.declared.two.table.Line.TheVariants.{Page}
use Rattle.statistics.specs.Answers.{count_of, rows}
use Rattle.statistics.specs.Columns.{label, or_dash}
use Rattle.statistics.specs.Page.{column_head, columns_head, columns_tail, line_head, line_tail, most_cell, page_all}
use Rattle.statistics.specs.Page.{page_cells, page_columns, page_means, page_two, plain, shaded}
use Rattle.statistics.specs.Page.{most_in_row as most_in_a_row}
use Rattle.statistics.specs.TwoQuestions.{Pairs, cell, columns, in_column, mean_or_dash, of_columns, of_rows}
use Rattle.statistics.specs.internal.Kept.{CountsTwo, IsKeptTwo, KeptTwo, cell_at}
use Rattle.statistics.specs.internal.Lines.{bottom_kept, cell_piece, end_piece, kinds_kept, line_text, start_piece, top_kept, two_row, two_text}
use Rattle.statistics.specs.internal.PageLines.{columns_of_two, most_in_row, most_kept, page_cell, page_end, page_start}
use Rattle.statistics.specs.internal.Texts.{numbers_in, rows_of_one}
use Rattle.statistics.proofs.Alike.{flat_map_alike, map_alike, same_rows}
use Rattle.statistics.proofs.TwoTable.{Tells, tells, told, told_is}

-- a line, by its parts
line_is : (two : KeptTwo) (pairs : Pairs) (which : PageLine) (start : List ℕ) (text : ℕ → List ℕ) (end : List ℕ) → Tells two pairs
    → page_start (told two pairs) which ≡ start
    → ((m : ℕ) → m < length two.column_deals → page_cell (told two pairs) which m ≡ text m)
    → page_end (told two pairs) which ≡ end
    → line_text (told two pairs) (Page which) ≡ start ++ flat_map text (columns (kinds_kept two) pairs) ++ end
unfolding line_text start_piece cell_piece end_piece
line_is two pairs which start text end h begins has ends =
    ap₂ (λ (x z : List ℕ). x ++ flat_map (cell_piece (told two pairs) (Page which)) (numbers_in (columns_of_two (told two pairs))) ++ z) begins ends
    ∙ ap (λ (y : List ℕ). start ++ y ++ end)
    (flat_map_alike (cell_piece (told two pairs) (Page which)) text (columns_of_two (told two pairs)) (λ m lt. has m (omega (arith, h.columns)))
    ∙ ap (flat_map text) (same_rows (is_condition two.by.question) (of_columns pairs)))

heads_are : (two : KeptTwo) (pairs : Pairs) → Tells two pairs → line_text (told two pairs) (Page Heads) ≡ page_columns (kinds_kept two) pairs
unfolding page_columns page_start page_cell page_end
heads_are two pairs h = line_is two pairs Heads columns_head
    (λ (m : ℕ). column_head (label (is_condition two.by.question) m)) columns_tail h refl (λ m lt. refl) refl

-- the most deals that a cell has
most_in_row_is : (two : KeptTwo) (pairs : Pairs) (n : ℕ) → Tells two pairs → n < length two.of.counts
    → most_in_row (told two pairs) n ≡ most_in_a_row (kinds_kept two) pairs n
most_in_row_is two pairs n h low =
    ap (λ (xs : List ℕ). fold max 0 xs)
    (map_alike (λ (m : ℕ). cell_at two n m) (λ (m : ℕ). cell pairs n m) (columns_of_two (told two pairs))
    (λ m lt. h.cells n m low (omega (arith, h.columns)))
    ∙ ap (map (λ (m : ℕ). cell pairs n m)) (same_rows (is_condition two.by.question) (of_columns pairs)))

most_is : (two : KeptTwo) (pairs : Pairs) → Tells two pairs → most_kept (told two pairs) ≡ most_cell (kinds_kept two) pairs
most_is two pairs h =
    ap (λ (xs : List ℕ). fold max 0 xs)
    (map_alike (λ (n : ℕ). most_in_row (told two pairs) n) (λ (n : ℕ). most_in_a_row (kinds_kept two) pairs n) (rows_of_one (told two pairs).of)
    (λ n lt. most_in_row_is two pairs n h (omega (arith, h.rows)))
    ∙ ap (map (λ (n : ℕ). most_in_a_row (kinds_kept two) pairs n)) (same_rows (is_condition two.of.asked.question) (of_rows pairs)))

cells_are : (two : KeptTwo) (pairs : Pairs) (n : ℕ) → Tells two pairs → n < length two.of.counts
    → line_text (told two pairs) (Page (Cells n (most_kept (told two pairs)))) ≡ page_cells (kinds_kept two) pairs n
unfolding page_cells page_start page_cell page_end
cells_are two pairs n h low =
    line_is two pairs (Cells n (most_kept (told two pairs)))
    (line_head (label (is_condition two.of.asked.question) n))
    (λ (m : ℕ). shaded (most_cell (kinds_kept two) pairs) (cell pairs n m))
    (line_tail (or_dash (count_of n (of_rows pairs)))) h refl
    (λ m lt. ap₂ (λ (most c : ℕ). shaded most c) (most_is two pairs h) (h.cells n m low lt))
    (ap (λ (c : ℕ). line_tail (or_dash c)) (h.counts n low))

totals_are : (two : KeptTwo) (pairs : Pairs) → Tells two pairs → line_text (told two pairs) (Page Totals) ≡ page_all (kinds_kept two) pairs
unfolding page_all page_start page_cell page_end
totals_are two pairs h =
    line_is two pairs Totals (line_head (codes "all")) (λ (m : ℕ). plain (or_dash (length (in_column m pairs))))
    (line_tail (or_dash (length pairs))) h refl
    (λ m lt. ap (λ (c : ℕ). plain (or_dash c)) (h.deals m lt))
    (ap (λ (c : ℕ). line_tail (or_dash c)) (length-map pairs (λ (p : ℕ × ℕ). p.0)))

means_are : (two : KeptTwo) (pairs : Pairs) → Tells two pairs → line_text (told two pairs) (Page Means) ≡ page_means (kinds_kept two) pairs
unfolding page_means page_start page_cell page_end
means_are two pairs h =
    line_is two pairs Means (line_head (codes "mean")) (λ (m : ℕ). plain (mean_or_dash (length (in_column m pairs)) (sum (in_column m pairs))))
    (line_tail (mean_or_dash (length (of_rows pairs)) (sum (of_rows pairs)))) h refl
    (λ m lt. ap₂ (λ (c t : ℕ). plain (mean_or_dash c t)) (h.deals m lt) (h.totals m (omega (arith, h.alike))))
    refl

regrouped : (x y a t m b : List ℕ) → x ++ y ++ (a ++ (t ++ m) ++ b) ≡ x ++ y ++ a ++ t ++ m ++ b
regrouped x y a t m b = simp append_assoc

page_is : (two : KeptTwo) (pairs : Pairs) → Tells two pairs → two_text (told two pairs) Html ≡ page_two (kinds_kept two) pairs
unfolding two_text top_kept bottom_kept page_two
page_is two pairs h =
    let lines : List ℕ = flat_map (page_cells (kinds_kept two) pairs) (rows (is_condition two.of.asked.question) (of_rows pairs)) in
    let rows_are : flat_map (two_row (told two pairs) Html) (numbers_in (rows_of_one (told two pairs).of)) ≡ lines =
    flat_map_alike (two_row (told two pairs) Html) (page_cells (kinds_kept two) pairs)
    (rows_of_one (told two pairs).of) (λ n lt. cells_are two pairs n h (omega (arith, h.rows)))
    ∙ ap (flat_map (page_cells (kinds_kept two) pairs)) (same_rows (is_condition two.of.asked.question) (of_rows pairs)) in
    regrouped (line_text (told two pairs) (Page Heads)) (flat_map (two_row (told two pairs) Html)
    (numbers_in (rows_of_one (told two pairs).of))) (codes "</tbody>\n<tfoot>\n")
    (line_text (told two pairs) (Page Totals)) (if is_condition two.of.asked.question then [] else line_text
    (told two pairs) (Page Means)) (codes "</tfoot>\n</table>\n</div>\n")
    ∙ ap₂ (λ (x y : List ℕ). x ++ y ++ codes "</tbody>\n<tfoot>\n" ++ line_text (told two pairs) (Page Totals)
    ++ (if is_condition two.of.asked.question then [] else line_text (told two pairs) (Page Means))
    ++ codes "</tfoot>\n</table>\n</div>\n") (heads_are two pairs h) rows_are
    ∙ ap₂ (λ (x y : List ℕ). page_columns (kinds_kept two) pairs
    ++ flat_map (page_cells (kinds_kept two) pairs) (rows (is_condition two.of.asked.question) (of_rows pairs))
    ++ codes "</tbody>\n<tfoot>\n" ++ x ++ (if is_condition two.of.asked.question then [] else y)
    ++ codes "</tfoot>\n</table>\n</div>\n") (totals_are two pairs h) (means_are two pairs h)

pub two_page_is : (two : KeptTwo) (pairs : Pairs) → IsKeptTwo two → CountsTwo two pairs → two_text two Html ≡ page_two (kinds_kept two) pairs
two_page_is two pairs kept h = ap (λ (t : KeptTwo). two_text t Html) (sym (told_is two pairs h)) ∙ page_is two pairs (tells two pairs kept h)
