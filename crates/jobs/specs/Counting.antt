-- What the questions of a `count` ask, and the table that tells of it.
use Rattle.std.specs.Prelude.{◌≡◌, ◌≤◌, ◌^◌, ℕ, List, [], ◌∷◌, Option, length, map}
use Rattle.cond_lang.specs.Asking.{SpellsQuestion}
use Rattle.cond_lang.specs.Form.{Form}
use Rattle.cond_lang.specs.Questions.{parts_asked}
use Rattle.conditions.specs.declared.limits.TheConstants.{MOST_PARTS}
use Rattle.jobs.specs.Makings.{text_read}
use Rattle.boards.specs.Plans.{Planned, candidate_of}
use Rattle.boards.specs.Text.{accepted, end_of}
use Rattle.requests.specs.Requests.{Questions, each_question, no_question, one_question}
use Rattle.requests.specs.Requests.{two_questions}
use Rattle.statistics.specs.Counting.{TitledQuestion, Subject, by_each, by_one, by_two, cells_of}
use Rattle.statistics.specs.Counting.{count_text, deals_alone, title_of}
use Rattle.statistics.specs.Json.{string_of}
use Rattle.boards.specs.declared.style.TableStyle.{TableStyle}

-- the text asks this question after the definitions, and it has no more parts than the limit; the
-- text is its title if it fits, and its string in JSON
pub record IsQuestion (definitions : Option (List ℕ)) (text : List ℕ) (asked : TitledQuestion)
    : Type 0 where
  pub short : length text ≤ 1024
  pub spells : SpellsQuestion (text_read definitions text) asked.question
  pub few : parts_asked asked.question ≤ MOST_PARTS
  pub title : asked.title ≡ title_of text
  pub string : asked.string ≡ string_of text

-- each of the texts asks its question
abbrev pub AskEach : (definitions : Option (List ℕ)) → List (List ℕ) → List TitledQuestion → Type 0
AskEach definitions [] [] = Unit {0}
AskEach definitions (text ∷ texts) (a ∷ asked) =
    IsQuestion definitions text a × AskEach definitions texts asked
AskEach definitions texts asked = ⊥

-- the texts ask this of the deals
abbrev pub Asks : (definitions : Option (List ℕ)) → Questions → Subject → Type 0
Asks definitions no_question subject = subject ≡ deals_alone
Asks definitions (one_question text) subject =
    (a : TitledQuestion) × IsQuestion definitions text a × (subject ≡ by_one a)
Asks definitions (two_questions rows columns) subject =
    (a : TitledQuestion) × (b : TitledQuestion) × IsQuestion definitions rows a
    × IsQuestion definitions columns b × (subject ≡ by_two a b)
Asks definitions (each_question texts) subject =
    (asked : List TitledQuestion) × AskEach definitions texts asked × (subject ≡ by_each asked)

-- and each table has at most 1,048,576 cells: one of a single question has as many as rows
pub record IsAsked (definitions : Option (List ℕ)) (questions : Questions) (subject : Subject)
    : Type 0 where
  pub asks : Asks definitions questions subject
  pub small : cells_of subject ≤ 2 ^ 20

-- the table of the accepted deals of a plan, and of how many candidates were tried. Neither the
-- workers nor the capacity of the lanes are named
unfoldable pub table_by : TableStyle → Subject → Planned → Form → List ℕ
table_by style subject plan form =
    count_text style subject (map (candidate_of plan) (accepted plan form)) (end_of plan form)
