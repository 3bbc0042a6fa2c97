-- Which deals are tried and accepted: options of a search, and of its speed.
use Rattle.std.specs.Prelude.{◌&&◌, ◌||◌, ℕ, Bool, false, not, List, [], ◌∷◌, ◌++◌, Option, Some, None}
use Rattle.std.specs.Prelude.{codes, is_some, length, nat_lt, option_map, unwrap_or, if◌then◌else◌}
use Rattle.std.specs.Option.{option_and_then, option_map_or}
use Rattle.std.specs.Str.{bytes_eq}
use Rattle.std.specs.Str.Parse.{digits_value, without_leading_plus}
use Rattle.std.specs.Char.{digit_value}
use Rattle.std.specs.List.{list_all}
use Rattle.clap.specs.Words.{Row, Rule, Text, first_of}
use Rattle.clap.specs.declared.builder.value_parser.ValueParser.TheVariants as parsed
use Rattle.command_line.specs.Given.{number_in, number_or}
use Rattle.command_line.specs.Rules.{lettered, option_rule, required, u32_parser, u64_parser}
use Rattle.requests.specs.Lessons.{Lesson, lesson_named}
use Rattle.requests.specs.PredealtHands.{GivenHands}
use Rattle.requests.specs.Requests.{Search}
use Rattle.requests.specs.declared.workers.Workers.{Workers}
use Rattle.requests.specs.declared.workers.Workers.TheVariants.{Number}
use Rattle.requests.specs.declared.workers.Workers.TheVariants as workers

-- which seed, and which of its deals
abbrev pub seed_rules : List Rule
seed_rules = lettered (codes "s") (required (option_rule (codes "seed") u32_parser)) ∷ []

abbrev pub search_rules : List Rule
search_rules =
    option_rule (codes "lesson") parsed.String
    ∷ lettered (codes "w") (option_rule (codes "where") parsed.String)
    ∷ option_rule (codes "let") parsed.String
    ∷ lettered (codes "n") (option_rule (codes "boards") u32_parser)
    ∷ option_rule (codes "candidates") u64_parser
    ∷ option_rule (codes "first") u64_parser
    ∷ []

abbrev pub hand_rules : List Rule
hand_rules =
    option_rule (codes "north") parsed.String
    ∷ option_rule (codes "east") parsed.String
    ∷ option_rule (codes "south") parsed.String
    ∷ option_rule (codes "west") parsed.String
    ∷ []

abbrev pub speed_rules : List Rule
speed_rules =
    option_rule (codes "workers") parsed.String
    ∷ option_rule (codes "lane") u32_parser
    ∷ []

-- the lesson whose name was given, if there is one
abbrev pub lesson_in : Text → List Row → Option Lesson
lesson_in id rows = option_and_then lesson_named (first_of id rows)

-- a name was given that no lesson has
abbrev pub is_no_lesson : Text → List Row → Bool
is_no_lesson id rows =
    option_map_or (λ name. not (is_some (lesson_named name))) (first_of id rows) false

-- the number of 32 bits that a text writes in digits, perhaps after a +
abbrev pub number32 : Text → Option ℕ
number32 text =
    let ds = without_leading_plus text in
    if nat_lt 0 (length ds) && (list_all (λ d. nat_lt (digit_value d) 10) ds
    && nat_lt (digits_value 10 ds) 4294967296) then Some (digits_value 10 ds) else None

-- what a text of `--workers` means
abbrev pub workers_meant : Text → Option Workers
workers_meant text =
    if bytes_eq text (codes "auto") then Some workers.Auto else option_map Number (number32 text)

-- how many workers were asked for, one if the option was not given
abbrev pub workers_in : List Row → Workers
workers_in rows =
    unwrap_or (option_and_then workers_meant (first_of (codes "workers") rows)) (Number 1)

-- the option was given a text that is neither a number nor `auto`
abbrev pub has_bad_workers : List Row → Bool
has_bad_workers rows = option_map_or (λ text. not (is_some (workers_meant text)))
    (first_of (codes "workers") rows) false

-- the texts of hands that the options were given
abbrev pub hands_in : List Row → GivenHands
hands_in rows = record {
  north = first_of (codes "north") rows;
  east = first_of (codes "east") rows;
  south = first_of (codes "south") rows;
  west = first_of (codes "west") rows;
}

-- what options of a search were given, or their defaults
abbrev pub search_in : List Row → Search
search_in rows = record {
  seed = number_or 0 (codes "seed") rows;
  candidates = number_in (codes "candidates") rows;
  first = number_or 0 (codes "first") rows;
  workers = workers_in rows;
  lane = number_in (codes "lane") rows;
  lesson = option_map (λ l. l.condition) (lesson_in (codes "lesson") rows);
  let_text = first_of (codes "let") rows;
  where_text = first_of (codes "where") rows;
  boards = number_in (codes "boards") rows;
  hands = hands_in rows;
}
