-- The tables, as what is kept tells them.
use Rattle.std.specs.Prelude.{◌≡◌, ◌≤◌, ◌<◌, ℕ, ◌+◌, ◌-◌, Bool, List, [], ◌++◌, codes, if◌then◌else◌}
use Rattle.std.specs.Prelude.{fold, length, map, max, slice_index}
use Rattle.std.specs.List.{flat_map, range_with_len}
use Rattle.conditions.specs.Questions.{is_condition}
use Rattle.statistics.specs.declared.sums.Sums.{Sums}
use Rattle.statistics.specs.declared.rows.Rows.{Rows as ARows}
use Rattle.statistics.specs.declared.one.table.Widths.{Widths}
use Rattle.statistics.specs.declared.line_style.LineStyle.{LineStyle}
use Rattle.statistics.specs.declared.line_style.LineStyle.TheVariants.{Csv, Html, Table}
use Rattle.statistics.specs.Columns.{commas}
use Rattle.statistics.specs.Csv.{csv_row}
use Rattle.statistics.specs.OneQuestion.{line, mean_text, row, second_width}
use Rattle.statistics.specs.Page.{page_header, page_row}
use Rattle.statistics.specs.internal.Kept.{KeptOne}

-- the numbers from one on, up to another
abbrev pub numbers_in : ARows → List ℕ
numbers_in rows = range_with_len rows.first (rows.end - rows.first)

-- the numbers that have a row
abbrev pub rows_shown : Bool → Sums → ARows
rows_shown is_condition sums =
    if is_condition then record { first = 0; end = 2 }
    else record { first = sums.least; end = sums.greatest + 1 }

-- the greatest count of some rows
abbrev pub most_of : List ℕ → ARows → ℕ
most_of counts rows = fold max 0 (map (λ n. slice_index counts n) (numbers_in rows))

abbrev pub asks_condition : KeptOne → Bool
asks_condition one = is_condition one.asked.question

abbrev pub rows_of_one : KeptOne → ARows
rows_of_one one = rows_shown (asks_condition one) one.sums

abbrev pub first_kept : Bool → ℕ → ℕ
first_kept is_condition greatest =
    if is_condition then 5 else max 5 (length (commas greatest))

-- how wide the columns are, and how many deals the longest row has
pub record AreWidths (one : KeptOne) (widths : Widths) : Type 0 where
  pub first : widths.first ≡ first_kept (asks_condition one) one.sums.greatest
  pub second : widths.second ≡ second_width (most_of one.counts (rows_of_one one))
  pub most : widths.most ≡ most_of one.counts (rows_of_one one)
  pub first_fits : widths.first ≤ 100
  pub second_fits : widths.second ≤ 100

-- what comes before the rows, a row, and what comes after them
unfoldable pub one_head : LineStyle → Widths → KeptOne → List ℕ
one_head Table widths one =
    codes "\n" ++ one.asked.title ++ codes "\n"
    ++ line widths.first widths.second (codes "value") (codes "deals") (codes "%") []
one_head Csv widths one = codes "value,deals\n"
one_head Html widths one = page_header

unfoldable pub one_row : LineStyle → Widths → KeptOne → ℕ → List ℕ
one_row Table widths one n =
    row (asks_condition one) widths.first widths.second widths.most one.sums.deals n
    (slice_index one.counts n)
one_row Csv widths one n = csv_row (asks_condition one) n (slice_index one.counts n)
one_row Html widths one n =
    page_row (asks_condition one) widths.most one.sums.deals n (slice_index one.counts n)

unfoldable pub one_tail : LineStyle → KeptOne → List ℕ
one_tail Table one =
    if asks_condition one then []
    else codes "\n" ++ mean_text one.sums.deals one.sums.sum one.sums.squares ++ codes "\n"
one_tail Csv one = []
one_tail Html one =
    codes "</tbody>\n</table>\n"
    ++ (if asks_condition one then []
    else codes "<p>" ++ mean_text one.sums.deals one.sums.sum one.sums.squares ++ codes "</p>\n")

unfoldable pub one_text : LineStyle → Widths → KeptOne → List ℕ
one_text style widths one =
    one_head style widths one ++ flat_map (one_row style widths one) (numbers_in (rows_of_one one))
    ++ one_tail style one

-- a table for people has a deal
abbrev pub HasDeals : LineStyle → ℕ → Type 0
HasDeals Table deals = 0 < deals
HasDeals Csv deals = Unit {0}
HasDeals Html deals = 0 < deals
