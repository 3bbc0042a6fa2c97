-- What is counted: options of the questions, and of their table.
use Rattle.std.specs.Prelude.{◌&&◌, ◌||◌, Bool, not, List, [], ◌∷◌, ◌++◌, Option, Some, None}
use Rattle.std.specs.Prelude.{codes, is_some, length, nat_lt, take, unwrap_or}
use Rattle.clap.specs.Words.{Row, Rule, Text, all_of, first_of}
use Rattle.clap.specs.declared.builder.value_parser.ValueParser.TheVariants as parsed
use Rattle.boards.specs.declared.style.TableStyle.{TableStyle}
use Rattle.boards.specs.declared.style.TableStyle.TheVariants.{Csv, Html, Json, Table}
use Rattle.command_line.specs.Given.{choice_in}
use Rattle.command_line.specs.Rules.{option_rule, repeated}
use Rattle.requests.specs.Requests.{Questions, each_question, no_question, one_question, two_questions}

abbrev pub question_rules : List Rule
question_rules =
    repeated (option_rule (codes "of") parsed.String)
    ∷ option_rule (codes "by") parsed.String
    ∷ []

abbrev pub styles : List (Text × TableStyle)
styles =
    (codes "table", Table) ∷ (codes "csv", Csv) ∷ (codes "html", Html) ∷ (codes "json", Json)
    ∷ []

-- the texts of the questions that the options were given: of `of` up to eight
abbrev pub questions_from : List Text → Option Text → Questions
questions_from [] by = no_question
questions_from (text ∷ []) None = one_question text
questions_from (text ∷ []) (Some by) = two_questions text by
questions_from (text ∷ other ∷ texts) by = each_question (take 8 (text ∷ other ∷ texts))

abbrev pub of_texts : List Row → List Text
of_texts rows = unwrap_or (all_of (codes "of") rows) []

abbrev pub questions_in : List Row → Questions
questions_in rows = questions_from (of_texts rows) (first_of (codes "by") rows)

abbrev pub style_in : List Row → TableStyle
style_in rows = unwrap_or (choice_in styles (codes "format") rows) Table

-- there is a question for the columns of a table, and none for its rows
abbrev pub has_by_alone : List Row → Bool
has_by_alone rows =
    is_some (first_of (codes "by") rows) && not (is_some (first_of (codes "of") rows))

-- there are more than eight questions, or one for columns beside several
abbrev pub has_extra : List Row → Bool
has_extra rows =
    nat_lt 8 (length (of_texts rows))
    || (nat_lt 1 (length (of_texts rows)) && is_some (first_of (codes "by") rows))
