-- The lines of a table of two questions on a page, as what is kept tells them.
use Rattle.std.specs.Prelude.{◌≤◌, ◌<◌, ℕ, List, codes, fold, length, map, max, slice_index}
use Rattle.conditions.specs.Questions.{is_condition}
use Rattle.statistics.specs.declared.rows.Rows.{Rows as ARows}
use Rattle.statistics.specs.declared.line_style.LineStyle.{LineStyle}
use Rattle.statistics.specs.declared.line_style.LineStyle.TheVariants.{Csv, Html, Table}
use Rattle.statistics.specs.declared.two.page.PageLine.{PageLine}
use Rattle.statistics.specs.declared.two.page.PageLine.TheVariants.{Cells, Heads, Means, Totals}
use Rattle.statistics.specs.Columns.{label, or_dash}
use Rattle.statistics.specs.Page.{column_head, columns_head, columns_tail, line_head, line_tail}
use Rattle.statistics.specs.Page.{plain, shaded}
use Rattle.statistics.specs.TwoQuestions.{mean_or_dash}
use Rattle.statistics.specs.internal.Kept.{KeptTwo, cell_at}
use Rattle.statistics.specs.internal.Texts.{numbers_in, rows_of_one, rows_shown}

abbrev pub columns_of_two : KeptTwo → ARows
columns_of_two two = rows_shown (is_condition two.by.question) two.by_sums

-- the most deals that a cell of a row has, and that any cell has
abbrev pub most_in_row : KeptTwo → ℕ → ℕ
most_in_row two n = fold max 0 (map (λ m. cell_at two n m) (numbers_in (columns_of_two two)))

abbrev pub most_kept : KeptTwo → ℕ
most_kept two = fold max 0 (map (λ n. most_in_row two n) (numbers_in (rows_of_one two.of)))

-- where the cells are shaded
abbrev pub most_for : KeptTwo → LineStyle → ℕ
most_for two Table = 0
most_for two Csv = 0
most_for two Html = most_kept two

-- a row, where a cell has at most this many deals
pub record IsPageRow (two : KeptTwo) (n most : ℕ) : Type 0 where
  pub within : n < length two.of.counts
  pub up_to : (m : ℕ) → (columns_of_two two).first ≤ m → m < (columns_of_two two).end
      → cell_at two n m ≤ most

abbrev pub IsPageLine : KeptTwo → PageLine → Type 0
IsPageLine two Heads = Unit {0}
IsPageLine two (Cells n most) = IsPageRow two n most
IsPageLine two Totals = Unit {0}
IsPageLine two Means = Unit {0}

-- the cell of a column has no more deals
abbrev pub IsShaded : KeptTwo → PageLine → ℕ → Type 0
IsShaded two Heads m = Unit {0}
IsShaded two (Cells n most) m = cell_at two n m ≤ most
IsShaded two Totals m = Unit {0}
IsShaded two Means m = Unit {0}

-- what a line begins with, what it has of each column, and what it ends with
unfoldable pub page_start : KeptTwo → PageLine → List ℕ
page_start two Heads = columns_head
page_start two (Cells n most) = line_head (label (is_condition two.of.asked.question) n)
page_start two Totals = line_head (codes "all")
page_start two Means = line_head (codes "mean")

unfoldable pub page_cell : KeptTwo → PageLine → ℕ → List ℕ
page_cell two Heads m = column_head (label (is_condition two.by.question) m)
page_cell two (Cells n most) m = shaded most (cell_at two n m)
page_cell two Totals m = plain (or_dash (slice_index two.column_deals m))
page_cell two Means m =
    plain (mean_or_dash (slice_index two.column_deals m) (slice_index two.column_sums m))

unfoldable pub page_end : KeptTwo → PageLine → List ℕ
page_end two Heads = columns_tail
page_end two (Cells n most) = line_tail (or_dash (slice_index two.of.counts n))
page_end two Totals = line_tail (or_dash two.of.sums.deals)
page_end two Means = line_tail (mean_or_dash two.of.sums.deals two.of.sums.sum)
