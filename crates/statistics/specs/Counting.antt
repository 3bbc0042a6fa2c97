-- What is counted, and the text that tells of it.
use Rattle.std.specs.Prelude.{ℕ, ◌*◌, ◌==◌, ◌&&◌, ◌^◌, Bool, List, [], ◌++◌, codes, length, map}
use Rattle.std.specs.Prelude.{fold, if◌then◌else◌, max, nat_le, take}
use Rattle.std.specs.List.{enumerate_from, flat_map, list_all}
use Rattle.boards.specs.Html.{html_end}
use Rattle.boards.specs.Layouts.{Layout}
use Rattle.cards.specs.declared.seat.Seat.{Seat}
use Rattle.conditions.specs.Questions.{Question, answer, is_condition, rows_of}
use Rattle.boards.specs.declared.style.TableStyle.{TableStyle}
use Rattle.boards.specs.declared.style.TableStyle.TheVariants.{Csv, Html, Json, Table}
use Rattle.statistics.specs.Answers.{answers_of}
use Rattle.statistics.specs.Csv.{csv_counts, csv_numbered, csv_one, csv_total, csv_two}
use Rattle.statistics.specs.Json.{json_object, json_one, json_two}
use Rattle.statistics.specs.OneQuestion.{one_table}
use Rattle.statistics.specs.Page.{page_head, page_heading, page_one, page_two}
use Rattle.statistics.specs.Sentence.{sentence}
use Rattle.statistics.specs.TwoQuestions.{Kinds, Pairs, two_table}

-- a question, the title that it has in a table, and its text as a string of JSON
pub record TitledQuestion : Type 0 where
  pub question : Question
  pub title : List ℕ
  pub string : List ℕ

-- whether a text may come in a table: at most 72 bytes of printable ASCII
abbrev pub is_shown : List ℕ → Bool
is_shown text = nat_le (length text) 72 && list_all (λ b. nat_le 0x20 b && nat_le b 0x7E) text

-- the title of a question's text: the text, if it may come in a table
abbrev pub title_of : List ℕ → List ℕ
title_of text = if is_shown text then text else codes "value"

-- what is asked of the deals: nothing but how many there are, one question, or two for rows and
-- columns, or several that have a table each
pub data Subject : Type 0 where
  deals_alone : Subject
  by_one : TitledQuestion → Subject
  by_two : TitledQuestion → TitledQuestion → Subject
  by_each : List TitledQuestion → Subject

-- the most rows that a table of one of the questions can have
abbrev pub most_rows : List TitledQuestion → ℕ
most_rows asked = fold max 0 (map (λ a. rows_of a.question) asked)

-- how many cells a table can have. One of a single question has a row for each answer; of several
-- tables the greatest counts
abbrev pub cells_of : Subject → ℕ
cells_of deals_alone = 0
cells_of (by_one asked) = rows_of asked.question
cells_of (by_two of by) = rows_of of.question * rows_of by.question
cells_of (by_each asked) = most_rows asked

-- what each of the deals answers to two questions
abbrev pub pairs_of : Question → Question → List (List Seat) → Pairs
pairs_of of by deals = map (λ deal. (answer of deal, answer by deal)) deals

abbrev pub kinds_of : TitledQuestion → TitledQuestion → Kinds
kinds_of of by =
    record { of_condition = is_condition of.question; by_condition = is_condition by.question }

-- what is told of one of several questions, by its number and the answers
abbrev pub part_text : TableStyle → ℕ → TitledQuestion → List ℕ → List ℕ
part_text Table number asked answers =
    one_table (is_condition asked.question) asked.title answers
part_text Csv number asked answers =
    csv_numbered number (is_condition asked.question) answers
part_text Html number asked answers =
    page_heading asked.title ++ page_one (is_condition asked.question) answers
part_text Json number asked answers =
    (if number == 1 then [] else codes ",")
    ++ json_one (is_condition asked.question) asked.string answers

-- and of all of them, numbered from 1
abbrev pub part_of : TableStyle → List (List Seat) → ℕ × TitledQuestion → List ℕ
part_of style deals numbered =
    part_text style numbered.0 numbered.1 (answers_of numbered.1.question deals)

abbrev pub parts_text : TableStyle → List TitledQuestion → List (List Seat) → List ℕ
parts_text style asked deals = flat_map (part_of style deals) (enumerate_from 1 asked)

-- the table below the sentence: none if no deal is there
unfoldable pub table_text : Subject → List (List Seat) → List ℕ
table_text deals_alone deals = []
table_text (by_one asked) deals =
    one_table (is_condition asked.question) asked.title (answers_of asked.question deals)
table_text (by_two of by) deals =
    two_table (kinds_of of by) of.title by.title (pairs_of of.question by.question deals)
table_text (by_each asked) deals = parts_text Table asked deals

unfoldable pub csv_text : Subject → List (List Seat) → ℕ → List ℕ
csv_text deals_alone deals candidates = csv_total (length deals) candidates
csv_text (by_one asked) deals candidates =
    csv_one (is_condition asked.question) (answers_of asked.question deals)
csv_text (by_two of by) deals candidates =
    csv_two (kinds_of of by) (pairs_of of.question by.question deals)
csv_text (by_each asked) deals candidates =
    csv_counts (length deals) candidates ++ parts_text Csv asked deals

-- the title of the page, its table, and all of it
abbrev pub page_title : Subject → List ℕ
page_title deals_alone = codes "Deals"
page_title (by_one asked) = asked.title
page_title (by_two of by) = of.title ++ codes " by " ++ by.title
page_title (by_each asked) = codes "Deals"

unfoldable pub page_table : Subject → List (List Seat) → List ℕ
page_table deals_alone deals = []
page_table (by_one asked) deals =
    page_one (is_condition asked.question) (answers_of asked.question deals)
page_table (by_two of by) deals =
    page_two (kinds_of of by) (pairs_of of.question by.question deals)
page_table (by_each asked) deals = parts_text Html asked deals

unfoldable pub page_text : Subject → List (List Seat) → ℕ → List ℕ
page_text subject deals candidates =
    page_head (page_title subject) (sentence (length deals) candidates)
    ++ (if length deals == 0 then [] else page_table subject deals)
    ++ html_end

-- the questions of the object
unfoldable pub json_questions : Subject → List (List Seat) → List ℕ
json_questions deals_alone deals = []
json_questions (by_one asked) deals =
    json_one (is_condition asked.question) asked.string (answers_of asked.question deals)
json_questions (by_two of by) deals =
    json_two (kinds_of of by) of.string by.string (pairs_of of.question by.question deals)
json_questions (by_each asked) deals = parts_text Json asked deals

abbrev pub json_text : Subject → List (List Seat) → ℕ → List ℕ
json_text subject deals candidates =
    json_object (length deals) candidates (json_questions subject deals)

-- all that is told of these deals, and of how many candidates were tried
unfoldable pub count_text : TableStyle → Subject → List (List Seat) → ℕ → List ℕ
count_text Table subject deals candidates =
    sentence (length deals) candidates ++ codes "\n"
    ++ (if length deals == 0 then [] else table_text subject deals)
count_text Csv subject deals candidates = csv_text subject deals candidates
count_text Html subject deals candidates = page_text subject deals candidates
count_text Json subject deals candidates = json_text subject deals candidates

-- the most rows or cells that a table can have: so no answer that is counted is as great
abbrev pub most_counted : ℕ
most_counted = 2 ^ 20

-- no plan has more candidates
abbrev pub most_deals : ℕ
most_deals = 2 ^ 40

-- as a notation: the boards have no text of their own, and the footer tells of their deals
abbrev pub counting : TableStyle → Subject → Layout
counting style subject = record {
  header = [];
  board = λ board. [];
  footer = λ boards tried.
      count_text style subject (map (λ board. board.deal) (take most_deals boards)) tried;
}
