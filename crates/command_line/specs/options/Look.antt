-- How the boards look: options of their format, and of what is written of them.
use Rattle.std.specs.Prelude.{true, false, ◌&&◌, ◌||◌, Bool, not, List, [], ◌∷◌, codes, is_some, unwrap_or}
use Rattle.clap.specs.Words.{Row, Rule, Text, first_of}
use Rattle.clap.specs.declared.builder.value_parser.ValueParser.TheVariants as parsed
use Rattle.boards.specs.Formats.{formats}
use Rattle.boards.specs.Show.{show_words}
use Rattle.boards.specs.declared.format.Format.TheVariants.{Pbn}
use Rattle.boards.specs.declared.setting.Vul.{Vul}
use Rattle.boards.specs.declared.setting.Vul.TheVariants.{Neither, NorthSouth, EastWest, Both}
use Rattle.boards.specs.declared.show.Seats.TheVariants.{All}
use Rattle.boards.specs.declared.show.Show.{Show}
use Rattle.cards.specs.declared.seat.Seat.{Seat}
use Rattle.cards.specs.declared.seat.Seat.TheVariants.{North, East, South, West}
use Rattle.command_line.specs.Given.{choice_in, is_set, is_unknown, number_in}
use Rattle.command_line.specs.Rules.{flag_rule, lettered, option_rule, u64_parser}
use Rattle.requests.specs.Requests.{Look, plain_look}

abbrev pub format_rules : List Rule
format_rules = lettered (codes "f") (option_rule (codes "format") parsed.String) ∷ []

-- which hands are written, and what of them
abbrev pub show_rules : List Rule
show_rules =
    option_rule (codes "show") parsed.String ∷ option_rule (codes "points") parsed.String ∷ []

abbrev pub board_rules : List Rule
board_rules =
    flag_rule (codes "tricks")
    ∷ option_rule (codes "dealer") parsed.String
    ∷ option_rule (codes "vulnerable") parsed.String
    ∷ flag_rule (codes "rotate")
    ∷ option_rule (codes "first-board") u64_parser
    ∷ []

abbrev pub text_rules : List Rule
text_rules =
    option_rule (codes "event") parsed.String
    ∷ option_rule (codes "site") parsed.String
    ∷ option_rule (codes "date") parsed.String
    ∷ []

-- options that have one of a few words, and what each word means; `boards` has the words for
-- formats and hands
abbrev pub points_words : List (Text × Bool)
points_words = (codes "show", true) ∷ (codes "hide", false) ∷ []

abbrev pub dealers : List (Text × Seat)
dealers =
    (codes "N", North) ∷ (codes "E", East) ∷ (codes "S", South) ∷ (codes "W", West) ∷ []

abbrev pub sides : List (Text × Vul)
sides =
    (codes "None", Neither) ∷ (codes "NS", NorthSouth) ∷ (codes "EW", EastWest)
    ∷ (codes "All", Both) ∷ []

-- a word was given that is none of its option's; the format is looked at by the subcommand
abbrev pub has_unknown_look : List Row → Bool
has_unknown_look rows =
    is_unknown show_words (codes "show") rows
    || (is_unknown points_words (codes "points") rows
    || (is_unknown dealers (codes "dealer") rows
    || is_unknown sides (codes "vulnerable") rows))

-- deals are turned where that is asked for, and those of a lesson too unless a dealer is given
abbrev pub is_turned : List Row → Bool
is_turned rows =
    is_set (codes "rotate") rows
    || (is_some (first_of (codes "lesson") rows)
    && not (is_some (first_of (codes "dealer") rows)))

-- the hands that are written, and whether their points are
abbrev pub show_in : List Row → Show
show_in rows = record {
  seats = unwrap_or (choice_in show_words (codes "show") rows) All;
  points = unwrap_or (choice_in points_words (codes "points") rows) true;
}

-- what the options of `show` were given, or their defaults
abbrev pub shown_look : List Row → Look
shown_look rows = record plain_look {
  format = unwrap_or (choice_in formats (codes "format") rows) Pbn;
  show = show_in rows;
  event = first_of (codes "event") rows;
  site = first_of (codes "site") rows;
  date = first_of (codes "date") rows;
}

-- what options of the boards' look were given, or their defaults
abbrev pub look_in : List Row → Look
look_in rows = record {
  format = unwrap_or (choice_in formats (codes "format") rows) Pbn;
  show = show_in rows;
  first_board = number_in (codes "first-board") rows;
  event = first_of (codes "event") rows;
  site = first_of (codes "site") rows;
  date = first_of (codes "date") rows;
  dealer = choice_in dealers (codes "dealer") rows;
  vulnerable = choice_in sides (codes "vulnerable") rows;
  rotate = is_turned rows;
}
