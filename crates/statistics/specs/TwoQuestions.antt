-- The table of two questions. What each deal answers is a pair: the number of its row and that of
-- its column.
use Rattle.std.specs.Prelude.{ℕ, ◌==◌, ◌&&◌, Bool, List, [], ◌++◌, codes, count_by, filter}
use Rattle.std.specs.Prelude.{if◌then◌else◌, length, map, max, sum}
use Rattle.std.specs.List.{flat_map}
use Rattle.statistics.specs.Answers.{count_of, rows}
use Rattle.statistics.specs.Columns.{label, or_dash, right}
use Rattle.statistics.specs.OneQuestion.{first_width}
use Rattle.statistics.specs.Rounded.{fraction}

abbrev pub Pairs : Type 0
Pairs = List (ℕ × ℕ)

-- what the rows' question was answered, and the columns'
abbrev pub of_rows : Pairs → List ℕ
of_rows pairs = map (λ p. p.0) pairs

abbrev pub of_columns : Pairs → List ℕ
of_columns pairs = map (λ p. p.1) pairs

-- how many deals a cell has
abbrev pub cell : Pairs → ℕ → ℕ → ℕ
cell pairs n m = count_by (λ p. p.0 == n && p.1 == m) pairs

-- what the rows' question was answered in a column
abbrev pub in_column : ℕ → Pairs → List ℕ
in_column m pairs = of_rows (filter (λ p. p.1 == m) pairs)

-- the mean of this many answers, of their sum, or `-`
abbrev pub mean_or_dash : ℕ → ℕ → List ℕ
mean_or_dash deals total = if deals == 0 then codes "-" else fraction 2 total deals

-- the two questions: whether they are conditions
pub record Kinds : Type 0 where
  pub of_condition : Bool
  pub by_condition : Bool

-- how wide the column of some answers is: no cell is wider than their number, in the row `all`
abbrev pub width : Bool → List ℕ → List ℕ → ℕ
width is_condition header answers =
    max (length header)
    (max (length (or_dash (length answers)))
    (if is_condition then 0 else length (mean_or_dash (length answers) (sum answers))))

abbrev pub column_width : Kinds → Pairs → ℕ → ℕ
column_width kinds pairs m =
    width kinds.of_condition (label kinds.by_condition m) (in_column m pairs)

abbrev pub all_width : Kinds → Pairs → ℕ
all_width kinds pairs = width kinds.of_condition (codes "all") (of_rows pairs)

-- the columns
abbrev pub columns : Kinds → Pairs → List ℕ
columns kinds pairs = rows kinds.by_condition (of_columns pairs)

-- a line: its first column, then the text of each column and of `all`
abbrev pub line : Kinds → Pairs → List ℕ → (ℕ → List ℕ) → List ℕ → List ℕ
line kinds pairs first text last =
    right (first_width kinds.of_condition (of_rows pairs)) first
    ++ flat_map (λ m. codes "  " ++ right (column_width kinds pairs m) (text m))
    (columns kinds pairs)
    ++ codes "  " ++ right (all_width kinds pairs) last ++ codes "\n"

unfoldable pub header_line : Kinds → Pairs → List ℕ
header_line kinds pairs =
    line kinds pairs (codes "value") (λ m. label kinds.by_condition m) (codes "all")

unfoldable pub row_line : Kinds → Pairs → ℕ → List ℕ
row_line kinds pairs n =
    line kinds pairs (label kinds.of_condition n) (λ m. or_dash (cell pairs n m))
    (or_dash (count_of n (of_rows pairs)))

unfoldable pub all_line : Kinds → Pairs → List ℕ
all_line kinds pairs =
    line kinds pairs (codes "all") (λ m. or_dash (length (in_column m pairs)))
    (or_dash (length pairs))

unfoldable pub mean_line : Kinds → Pairs → List ℕ
mean_line kinds pairs =
    line kinds pairs (codes "mean")
    (λ m. mean_or_dash (length (in_column m pairs)) (sum (in_column m pairs)))
    (mean_or_dash (length (of_rows pairs)) (sum (of_rows pairs)))

-- the title, the header, a row for each number, `all`, and of a value `mean`
unfoldable pub two_table : Kinds → List ℕ → List ℕ → Pairs → List ℕ
two_table kinds of_title by_title pairs =
    codes "\n" ++ of_title ++ codes " by " ++ by_title ++ codes "\n"
    ++ header_line kinds pairs
    ++ flat_map (row_line kinds pairs) (rows kinds.of_condition (of_rows pairs))
    ++ all_line kinds pairs
    ++ (if kinds.of_condition then [] else mean_line kinds pairs)
