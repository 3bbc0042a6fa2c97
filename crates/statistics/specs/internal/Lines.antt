-- The lines of a table of two questions, as what is kept tells them.
use Rattle.std.specs.Prelude.{◌<◌, ℕ, Bool, true, false, List, [], ◌++◌, codes, if◌then◌else◌}
use Rattle.std.specs.Prelude.{length, max, slice_index}
use Rattle.std.specs.List.{flat_map}
use Rattle.conditions.specs.Questions.{is_condition}
use Rattle.statistics.specs.declared.line_style.LineStyle.{LineStyle}
use Rattle.statistics.specs.declared.line_style.LineStyle.TheVariants.{Csv, Html, Table}
use Rattle.statistics.specs.declared.two.table.Line.{Line}
use Rattle.statistics.specs.declared.two.table.Line.TheVariants.{All, CsvRow, Header, Mean, Page}
use Rattle.statistics.specs.declared.two.table.Line.TheVariants.{Row}
use Rattle.statistics.specs.declared.two.page.PageLine.TheVariants.{Cells, Heads, Means, Totals}
use Rattle.statistics.specs.Columns.{label, or_dash, right}
use Rattle.statistics.specs.Csv.{csv_cell}
use Rattle.statistics.specs.TwoQuestions.{Kinds, mean_or_dash}
use Rattle.statistics.specs.internal.Kept.{KeptTwo, cell_at}
use Rattle.statistics.specs.internal.PageLines.{IsPageLine, IsShaded, columns_of_two, most_for}
use Rattle.statistics.specs.internal.PageLines.{page_cell, page_end, page_start}
use Rattle.statistics.specs.internal.Texts.{first_kept, numbers_in, rows_of_one}

abbrev pub kinds_kept : KeptTwo → Kinds
kinds_kept two = record {
  of_condition = is_condition two.of.asked.question;
  by_condition = is_condition two.by.question;
}

abbrev pub deals_at : KeptTwo → ℕ → ℕ
deals_at two m = slice_index two.column_deals m

abbrev pub total_at : KeptTwo → ℕ → ℕ
total_at two m = slice_index two.column_sums m

-- the number of a row is one that may have a deal
abbrev pub IsLine : KeptTwo → Line → Type 0
IsLine two (CsvRow n) = n < length two.of.counts
IsLine two Header = Unit {0}
IsLine two (Row n) = n < length two.of.counts
IsLine two All = Unit {0}
IsLine two Mean = Unit {0}
IsLine two (Page line) = IsPageLine two line

-- the cell of a column can be shaded, on a page
abbrev pub CanShade : KeptTwo → Line → ℕ → Type 0
CanShade two (CsvRow n) m = Unit {0}
CanShade two Header m = Unit {0}
CanShade two (Row n) m = Unit {0}
CanShade two All m = Unit {0}
CanShade two Mean m = Unit {0}
CanShade two (Page line) m = IsShaded two line m

-- what is in a line's first column, in that of a number, and in the last
unfoldable pub first_text : KeptTwo → Line → List ℕ
first_text two (CsvRow n) = []
first_text two Header = codes "value"
first_text two (Row n) = label (is_condition two.of.asked.question) n
first_text two All = codes "all"
first_text two Mean = codes "mean"
first_text two (Page line) = []

unfoldable pub cell_text : KeptTwo → Line → ℕ → List ℕ
cell_text two (CsvRow n) m = csv_cell (kinds_kept two) n m (cell_at two n m)
cell_text two Header m = label (is_condition two.by.question) m
cell_text two (Row n) m = or_dash (cell_at two n m)
cell_text two All m = or_dash (deals_at two m)
cell_text two Mean m = mean_or_dash (deals_at two m) (total_at two m)
cell_text two (Page line) m = []

unfoldable pub last_text : KeptTwo → Line → List ℕ
last_text two (CsvRow n) = []
last_text two Header = codes "all"
last_text two (Row n) = or_dash (slice_index two.of.counts n)
last_text two All = or_dash two.of.sums.deals
last_text two Mean = mean_or_dash two.of.sums.deals two.of.sums.sum
last_text two (Page line) = []

-- how wide the cells of a column are with this many deals, and such a sum
abbrev pub cells_kept : Bool → ℕ → ℕ → ℕ
cells_kept is_condition deals total =
    max (length (or_dash deals)) (if is_condition then 0 else length (mean_or_dash deals total))

unfoldable pub column_kept : KeptTwo → ℕ → ℕ
column_kept two m =
    max (length (label (is_condition two.by.question) m))
    (cells_kept (is_condition two.of.asked.question) (deals_at two m) (total_at two m))

unfoldable pub all_kept : KeptTwo → ℕ
all_kept two =
    max (length (codes "all"))
    (cells_kept (is_condition two.of.asked.question) two.of.sums.deals two.of.sums.sum)

-- what a line in columns begins with, what it has of each column, and what it ends with
abbrev pub start_in_columns : KeptTwo → Line → List ℕ
start_in_columns two line =
    right (first_kept (is_condition two.of.asked.question) two.of.sums.greatest)
    (first_text two line)

abbrev pub cell_in_columns : KeptTwo → Line → ℕ → List ℕ
cell_in_columns two line m = codes "  " ++ right (column_kept two m) (cell_text two line m)

abbrev pub end_in_columns : KeptTwo → Line → List ℕ
end_in_columns two line = codes "  " ++ right (all_kept two) (last_text two line) ++ codes "\n"

-- and any line
unfoldable pub start_piece : KeptTwo → Line → List ℕ
start_piece two (CsvRow n) = []
start_piece two Header = start_in_columns two Header
start_piece two (Row n) = start_in_columns two (Row n)
start_piece two All = start_in_columns two All
start_piece two Mean = start_in_columns two Mean
start_piece two (Page line) = page_start two line

unfoldable pub cell_piece : KeptTwo → Line → ℕ → List ℕ
cell_piece two (CsvRow n) m = cell_text two (CsvRow n) m
cell_piece two Header m = cell_in_columns two Header m
cell_piece two (Row n) m = cell_in_columns two (Row n) m
cell_piece two All m = cell_in_columns two All m
cell_piece two Mean m = cell_in_columns two Mean m
cell_piece two (Page line) m = page_cell two line m

unfoldable pub end_piece : KeptTwo → Line → List ℕ
end_piece two (CsvRow n) = []
end_piece two Header = end_in_columns two Header
end_piece two (Row n) = end_in_columns two (Row n)
end_piece two All = end_in_columns two All
end_piece two Mean = end_in_columns two Mean
end_piece two (Page line) = page_end two line

unfoldable pub line_text : KeptTwo → Line → List ℕ
line_text two line =
    start_piece two line ++ flat_map (cell_piece two line) (numbers_in (columns_of_two two))
    ++ end_piece two line

-- the line of a number, where a cell has at most this many deals
abbrev pub row_of : LineStyle → ℕ → ℕ → Line
row_of Table most n = Row n
row_of Csv most n = CsvRow n
row_of Html most n = Page (Cells n most)

abbrev pub two_row : KeptTwo → LineStyle → ℕ → List ℕ
two_row two style n = line_text two (row_of style (most_for two style) n)

-- the line of all deals, and of a value that of the means
abbrev pub totals_kept : KeptTwo → (all mean : Line) → List ℕ
totals_kept two all mean =
    line_text two all
    ++ (if is_condition two.of.asked.question then [] else line_text two mean)

unfoldable pub title_line : KeptTwo → List ℕ
title_line two = codes "\n" ++ two.of.asked.title ++ codes " by " ++ two.by.title ++ codes "\n"

-- the lines above the rows, the rows, and the lines below them
unfoldable pub top_kept : KeptTwo → LineStyle → List ℕ
top_kept two Table = title_line two ++ line_text two Header
top_kept two Csv = codes "value,by,deals\n"
top_kept two Html = line_text two (Page Heads)

unfoldable pub bottom_kept : KeptTwo → LineStyle → List ℕ
bottom_kept two Table = totals_kept two All Mean
bottom_kept two Csv = []
bottom_kept two Html =
    codes "</tbody>\n<tfoot>\n" ++ totals_kept two (Page Totals) (Page Means)
    ++ codes "</tfoot>\n</table>\n</div>\n"

unfoldable pub two_text : KeptTwo → LineStyle → List ℕ
two_text two style =
    top_kept two style ++ flat_map (two_row two style) (numbers_in (rows_of_one two.of))
    ++ bottom_kept two style
