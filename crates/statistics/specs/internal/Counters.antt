-- What a counter keeps, of whatever is asked.
use Rattle.std.specs.Prelude.{◌≡◌, ◌==◌, if◌then◌else◌, ℕ, List, [], ◌++◌, codes, decimal, length, map, take}
use Rattle.boards.specs.declared.board.Board.{Board}
use Rattle.cards.specs.declared.seat.Seat.{Seat}
use Rattle.statistics.specs.declared.kept.Kept.{Kept}
use Rattle.statistics.specs.declared.kept.Kept.TheVariants.{Alone, Cells, Each, Rows}
use Rattle.statistics.specs.declared.line_style.LineStyle.{LineStyle}
use Rattle.statistics.specs.declared.line_style.LineStyle.TheVariants.{Csv, Html, Table}
use Rattle.statistics.specs.Answers.{answers_of}
use Rattle.statistics.specs.Counting.{Subject, by_each, by_one, by_two, csv_text, deals_alone, most_deals}
use Rattle.statistics.specs.Counting.{page_table, page_title, pairs_of, table_text}
use Rattle.statistics.specs.Csv.{csv_total}
use Rattle.statistics.specs.Page.{page_head}
use Rattle.statistics.specs.Sentence.{sentence}
use Rattle.statistics.specs.internal.Kept.{CountsEach, CountsOne, CountsTwo, asked_each}

-- what is asked
abbrev pub asked_of : Kept → Subject
asked_of (Alone deals) = deals_alone
asked_of (Rows one) = by_one one.asked
asked_of (Cells two) = by_two two.of.asked two.by
asked_of (Each each) = by_each (asked_each each)

-- how many deals were counted
abbrev pub deals_kept : Kept → ℕ
deals_kept (Alone deals) = deals
deals_kept (Rows one) = one.sums.deals
deals_kept (Cells two) = two.of.sums.deals
deals_kept (Each each) = each.deals

-- the deals are what was counted
abbrev pub Counts : Kept → List (List Seat) → Type 0
Counts (Alone n) deals = n ≡ length deals
Counts (Rows one) deals = CountsOne one (answers_of one.asked.question deals)
Counts (Cells two) deals =
    CountsTwo two (pairs_of two.of.asked.question two.by.question deals)
Counts (Each each) deals = CountsEach each deals

-- the text below the sentence
abbrev pub body_text : LineStyle → Subject → List (List Seat) → ℕ → List ℕ
body_text Table subject deals tried = table_text subject deals
body_text Csv subject deals tried = csv_text subject deals tried
body_text Html subject deals tried = page_table subject deals

-- the same, where nothing but their number is asked
unfoldable pub alone_text : LineStyle → ℕ → ℕ → List ℕ
alone_text Table deals tried = []
alone_text Csv deals tried = csv_total deals tried
alone_text Html deals tried = []

-- what is above a table: the sentence
unfoldable pub sentence_line : ℕ → ℕ → List ℕ
sentence_line deals tried = sentence deals tried ++ codes "\n"

-- what is before the questions in JSON
unfoldable pub json_start : ℕ → ℕ → List ℕ
json_start deals tried =
    codes "{\"candidates\":" ++ decimal tried ++ codes ",\"deals\":" ++ decimal deals
    ++ codes ",\"questions\":["

-- the table of a page: none if there is no deal
abbrev pub page_part : Subject → List (List Seat) → List ℕ
page_part subject deals = if length deals == 0 then [] else page_table subject deals

-- what is above it
abbrev pub head_kept : Kept → ℕ → List ℕ
head_kept kept tried = page_head (page_title (asked_of kept)) (sentence (deals_kept kept) tried)

-- the deals of the boards, up to the last that counts
abbrev pub deals_of : List Board → List (List Seat)
deals_of boards = map (λ board. board.deal) (take most_deals boards)
