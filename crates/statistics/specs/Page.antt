-- A table as one page of HTML that needs nothing else.
use Rattle.std.specs.Prelude.{ℕ, ◌*◌, ◌==◌, Bool, List, [], ◌∷◌, ◌++◌, codes, fold, if◌then◌else◌}
use Rattle.std.specs.Prelude.{length, map, max, sum}
use Rattle.std.specs.List.{flat_map}
use Rattle.boards.specs.Html.{body_start, escaped, html_start}
use Rattle.statistics.specs.Answers.{count_of, most_in, rows, squares}
use Rattle.statistics.specs.Columns.{commas, label, or_dash}
use Rattle.statistics.specs.OneQuestion.{mean_text}
use Rattle.statistics.specs.PageStyle.{style}
use Rattle.statistics.specs.Rounded.{fraction}
use Rattle.statistics.specs.TwoQuestions.{Kinds, Pairs, cell, columns, in_column, mean_or_dash}
use Rattle.statistics.specs.TwoQuestions.{of_rows}

-- the title, the style, the title again as the heading, and the sentence
unfoldable pub page_head : List ℕ → List ℕ → List ℕ
page_head title sentence =
    html_start title ++ style ++ body_start title ++ codes "<p>" ++ sentence ++ codes "</p>\n"

-- ---- one question

-- a bar, as wide as its share of the longest
abbrev pub page_bar : ℕ → ℕ → List ℕ
page_bar count most =
    if count == 0 then []
    else codes "<i style=\"width:" ++ fraction 2 (100 * count) most ++ codes "%\"></i>"

unfoldable pub page_row : Bool → ℕ → ℕ → ℕ → ℕ → List ℕ
page_row is_condition most all n count =
    codes "<tr><th scope=\"row\">" ++ label is_condition n ++ codes "</th><td>" ++ commas count
    ++ codes "</td><td>" ++ fraction 2 (100 * count) all ++ codes "</td><td class=\"bar\">"
    ++ page_bar count most ++ codes "</td></tr>\n"

unfoldable pub page_header : List ℕ
page_header =
    codes "<table class=\"bars\">\n<thead><tr><th scope=\"col\">value</th>"
    ++ codes "<th scope=\"col\">deals</th><th scope=\"col\">%</th><td></td></tr></thead>\n<tbody>\n"

abbrev pub page_mean : Bool → List ℕ → List ℕ
page_mean is_condition answers =
    if is_condition then []
    else codes "<p>" ++ mean_text (length answers) (sum answers) (squares answers)
    ++ codes "</p>\n"

unfoldable pub page_one : Bool → List ℕ → List ℕ
page_one is_condition answers =
    page_header
    ++ flat_map
    (λ n. page_row is_condition (most_in (rows is_condition answers) answers)
    (length answers) n (count_of n answers))
    (rows is_condition answers)
    ++ codes "</tbody>\n</table>\n" ++ page_mean is_condition answers

-- one of several questions has its title above its table
abbrev pub page_heading : List ℕ → List ℕ
page_heading title = codes "<h2>" ++ escaped title ++ codes "</h2>\n"

-- ---- two questions

-- the most deals that a cell of a row has, and that any cell has
abbrev pub most_in_row : Kinds → Pairs → ℕ → ℕ
most_in_row kinds pairs n = fold max 0 (map (λ m. cell pairs n m) (columns kinds pairs))

abbrev pub most_cell : Kinds → Pairs → ℕ
most_cell kinds pairs =
    fold max 0 (map (most_in_row kinds pairs) (rows kinds.of_condition (of_rows pairs)))

-- a cell, shaded by its share of the most
abbrev pub shaded : ℕ → ℕ → List ℕ
shaded most count =
    if count == 0 then codes "<td>-</td>"
    else codes "<td style=\"--share:" ++ fraction 2 count most ++ codes "\">" ++ commas count
    ++ codes "</td>"

-- a line: its first column, then each column, and `all`
abbrev pub line_head : List ℕ → List ℕ
line_head first = codes "<tr><th scope=\"row\">" ++ first ++ codes "</th>"

abbrev pub line_tail : List ℕ → List ℕ
line_tail last = codes "<td class=\"all\">" ++ last ++ codes "</td></tr>\n"

abbrev pub page_line : Kinds → Pairs → List ℕ → (ℕ → List ℕ) → List ℕ → List ℕ
page_line kinds pairs first cell_of last =
    line_head first ++ flat_map cell_of (columns kinds pairs) ++ line_tail last

abbrev pub plain : List ℕ → List ℕ
plain text = codes "<td>" ++ text ++ codes "</td>"

abbrev pub column_head : List ℕ → List ℕ
column_head text = codes "<th scope=\"col\">" ++ text ++ codes "</th>"

abbrev pub columns_head : List ℕ
columns_head = codes "<div>\n<table class=\"cells\">\n<thead><tr>" ++ column_head (codes "value")

abbrev pub columns_tail : List ℕ
columns_tail = codes "<th scope=\"col\" class=\"all\">all</th></tr></thead>\n<tbody>\n"

unfoldable pub page_columns : Kinds → Pairs → List ℕ
page_columns kinds pairs =
    columns_head ++ flat_map (λ m. column_head (label kinds.by_condition m)) (columns kinds pairs)
    ++ columns_tail

unfoldable pub page_cells : Kinds → Pairs → ℕ → List ℕ
page_cells kinds pairs n =
    page_line kinds pairs (label kinds.of_condition n)
    (λ m. shaded (most_cell kinds pairs) (cell pairs n m))
    (or_dash (count_of n (of_rows pairs)))

unfoldable pub page_all : Kinds → Pairs → List ℕ
page_all kinds pairs =
    page_line kinds pairs (codes "all") (λ m. plain (or_dash (length (in_column m pairs))))
    (or_dash (length pairs))

unfoldable pub page_means : Kinds → Pairs → List ℕ
page_means kinds pairs =
    page_line kinds pairs (codes "mean")
    (λ m. plain (mean_or_dash (length (in_column m pairs)) (sum (in_column m pairs))))
    (mean_or_dash (length (of_rows pairs)) (sum (of_rows pairs)))

unfoldable pub page_two : Kinds → Pairs → List ℕ
page_two kinds pairs =
    page_columns kinds pairs
    ++ flat_map (page_cells kinds pairs) (rows kinds.of_condition (of_rows pairs))
    ++ codes "</tbody>\n<tfoot>\n" ++ page_all kinds pairs
    ++ (if kinds.of_condition then [] else page_means kinds pairs)
    ++ codes "</tfoot>\n</table>\n</div>\n"
