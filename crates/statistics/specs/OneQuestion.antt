-- The table of one question, and its mean.
use Rattle.std.specs.Prelude.{ℕ, zero, suc, ◌-◌, ◌*◌, ◌/◌, ◌^◌, ◌==◌, Bool, List, [], ◌∷◌, ◌++◌, codes}
use Rattle.std.specs.Prelude.{if◌then◌else◌, length, max, sum}
use Rattle.std.specs.List.{flat_map}
use Rattle.statistics.specs.Answers.{count_of, greatest_of, most_in, rows, squares}
use Rattle.statistics.specs.Columns.{commas, label, right}
use Rattle.statistics.specs.Rounded.{fraction, rounded, whole_root, with_point}

-- █, a character of three bytes
abbrev pub block : List ℕ
block = 0xE2 ∷ 0x96 ∷ 0x88 ∷ []

abbrev pub blocks : ℕ → List ℕ
blocks zero = []
blocks (suc n) = blocks n ++ block

-- how many blocks a row has: 40 if it is the longest, and at least one
abbrev pub bar_len : ℕ → ℕ → ℕ
bar_len count most = max 1 (rounded (40 * count) most)

-- two spaces and the bar, if the row has a deal
abbrev pub bar : ℕ → ℕ → List ℕ
bar count most =
    if count == 0 then [] else codes "  " ++ blocks (bar_len count most)

-- a line: three columns and the bar
abbrev pub line : ℕ → ℕ → List ℕ → List ℕ → List ℕ → List ℕ → List ℕ
line first second value deals share bar =
    right first value ++ codes "  " ++ right second deals ++ codes "  " ++ right 6 share
    ++ bar ++ codes "\n"

-- the row of the number n. A share is at most 100.00, so that its column has six
abbrev pub row : Bool → ℕ → ℕ → ℕ → ℕ → ℕ → ℕ → List ℕ
row is_condition first second most all n count =
    line first second (label is_condition n) (commas count) (fraction 2 (100 * count) all)
    (bar count most)

-- how wide the first column is: the greatest number is the widest; and the second
abbrev pub first_width : Bool → List ℕ → ℕ
first_width is_condition answers =
    if is_condition then 5 else max 5 (length (commas (greatest_of answers)))

abbrev pub second_width : ℕ → ℕ
second_width most = max 5 (length (commas most))

-- the rows below the header
unfoldable pub table_rows : Bool → List ℕ → List ℕ
table_rows is_condition answers =
    flat_map
    (λ n. row is_condition (first_width is_condition answers)
    (second_width (most_in (rows is_condition answers) answers))
    (most_in (rows is_condition answers) answers) (length answers) n (count_of n answers))
    (rows is_condition answers)

abbrev pub table_header : Bool → List ℕ → List ℕ
table_header is_condition answers =
    line (first_width is_condition answers)
    (second_width (most_in (rows is_condition answers) answers))
    (codes "value") (codes "deals") (codes "%") []

-- the standard deviation of this many answers, of their sum and of that of their squares, in
-- thousandths: the root of the mean square less the square of the mean, both rounded down
unfoldable pub deviation : ℕ → ℕ → ℕ → ℕ
deviation deals total squared =
    whole_root (10 ^ 6 * (deals * squared - total * total) / (deals * deals))

-- the mean and the standard deviation of a value
unfoldable pub mean_text : ℕ → ℕ → ℕ → List ℕ
mean_text deals total squared =
    codes "mean " ++ fraction 3 total deals
    ++ codes ", standard deviation " ++ with_point 3 (deviation deals total squared)

abbrev pub mean_line : Bool → List ℕ → List ℕ
mean_line is_condition answers =
    if is_condition then []
    else codes "\n" ++ mean_text (length answers) (sum answers) (squares answers) ++ codes "\n"

-- the title, the table and the mean, of some answers
unfoldable pub one_table : Bool → List ℕ → List ℕ → List ℕ
one_table is_condition title answers =
    codes "\n" ++ title ++ codes "\n" ++ table_header is_condition answers
    ++ table_rows is_condition answers ++ mean_line is_condition answers
