-- The command line: what the program's words ask for, by clap's own functions of the words.
use Rattle.std.specs.Prelude.{◌&&◌, ◌||◌, ◌==◌, Bool, false, not, List, [], ◌∷◌, Option, Some, None, is_some}
use Rattle.std.specs.Prelude.{codes, get_or, length, map, option_map, if◌then◌else◌}
use Rattle.std.specs.Option.{option_and_then, option_map_or}
use Rattle.std.specs.Str.{bytes_eq}
use Rattle.clap.specs.Words.{Kinds, Row, Text, fault_of, subcommand_of}
use Rattle.clap.specs.Kinds.{or_else}
use Rattle.clap.specs.declared.error.kind.ErrorKind.TheVariants.{ArgumentConflict, InvalidValue, ValueValidation}
use Rattle.clap.specs.declared.error.kind.ErrorKind.TheVariants.{MissingRequiredArgument}
use Rattle.boards.specs.Formats.{formats}
use Rattle.command_line.specs.Commands.{deals, subcommands}
use Rattle.command_line.specs.Given.{is_set, is_unknown, meant_by}
use Rattle.command_line.specs.declared.subcommands.Dealing.{Dealing}
use Rattle.command_line.specs.declared.subcommands.Dealing.TheVariants.{Count, Find, Make, Pick}
use Rattle.command_line.specs.declared.subcommands.Subcommand.{Subcommand}
use Rattle.command_line.specs.declared.subcommands.Subcommand.TheVariants.{Conditions, Deals, Lessons, Seed, Stream}
use Rattle.command_line.specs.declared.subcommands.Subcommand.TheVariants as sub
use Rattle.command_line.specs.options.Look.{has_unknown_look, look_in, shown_look}
use Rattle.command_line.specs.options.Notices.{has_unknown_time, notices_in, when_in}
use Rattle.command_line.specs.options.Others.{lessons_wish, stream_wish}
use Rattle.command_line.specs.options.Questions.{has_by_alone, has_extra, questions_in, style_in, styles}
use Rattle.command_line.specs.options.Search.{has_bad_workers, is_no_lesson, search_in}
use Rattle.requests.specs.Defaults.{with_long_lanes}
use Rattle.requests.specs.Requests.{Search, Wish, conditions, count, draw, make, numbers_look, pick, show}

-- the subcommands by their names
abbrev pub names : List (Text × Subcommand)
names = map (λ p. (p.1.top.name, p.0)) subcommands

abbrev pub subcommand_named : Text → Option Subcommand
subcommand_named = meant_by names

-- the format of `count` is that of a table
abbrev pub has_unknown_format : Subcommand → List Row → Bool
has_unknown_format (Deals Count) rows = is_unknown styles (codes "format") rows
has_unknown_format _ rows = is_unknown formats (codes "format") rows

-- an option was given a word that is none of its own
abbrev pub has_unknown : Subcommand → List Row → Bool
has_unknown named rows =
    has_unknown_format named rows || (has_unknown_look rows || has_unknown_time rows)

abbrev pub show_wish : List Row → Wish
show_wish rows = show (shown_look rows) (when_in (codes "hints") rows)

-- `pick` deals the candidates whose numbers it reads; the others search, and `count` has a table,
-- `find` numbers alone: both have long lanes
abbrev pub made_by : Dealing → Search → List Row → Wish
made_by Make s rows =
    make s (look_in rows) (is_set (codes "tricks") rows) (notices_in rows)
made_by Find s rows = make (with_long_lanes s) numbers_look false (notices_in rows)
made_by Count s rows =
    count (with_long_lanes s) (questions_in rows) (style_in rows) (notices_in rows)
made_by Pick s rows =
    pick s.seed s.hands (look_in rows) (is_set (codes "tricks") rows)
    (when_in (codes "hints") rows)

-- by the subcommand and what its options were given
abbrev pub wish_by : Subcommand → List Row → Wish
wish_by (Deals dealing) rows = made_by dealing (search_in rows) rows
wish_by sub.Show rows = show_wish rows
wish_by Conditions rows = conditions
wish_by Lessons rows = lessons_wish rows
wish_by Seed rows = draw
wish_by Stream rows = stream_wish rows

-- the subcommand that the words name, by clap's function of the words, with what its options were
-- given
abbrev pub called : Text × List Row → Option (Subcommand × List Row)
called p = option_map (λ named. (named, p.1)) (subcommand_named p.0)

abbrev pub called_in : List Text → Option (Subcommand × List Row)
called_in words = option_and_then called (subcommand_of deals words)

-- its wish
abbrev pub wish_in : List Text → Option Wish
wish_in words = option_map (λ p. wish_by p.0 p.1) (called_in words)

-- all but `pick` need a number of candidates, or a limit of boards
abbrev pub has_no_end : Dealing → Search → Bool
has_no_end Pick s = false
has_no_end _ s = not (is_some s.candidates) && not (is_some s.boards)

-- an option is missing
abbrev pub lacks_option : Dealing → Search → List Row → Bool
lacks_option dealing s rows = has_no_end dealing s || has_by_alone rows

abbrev pub extra_kinds : List Row → Kinds
extra_kinds rows = if has_extra rows then ArgumentConflict ∷ [] else []

abbrev pub missing_kinds : Dealing → Search → List Row → Kinds
missing_kinds dealing s rows =
    if lacks_option dealing s rows then MissingRequiredArgument ∷ [] else extra_kinds rows

-- clap reads those words as texts: one that means nothing is refused as clap refuses a value
abbrev pub dealing_kinds : Dealing → List Row → Kinds
dealing_kinds dealing rows =
    if has_unknown (Deals dealing) rows then InvalidValue ∷ []
    else (if is_no_lesson (codes "lesson") rows then InvalidValue ∷ []
    else (if has_bad_workers rows then ValueValidation ∷ []
    else missing_kinds dealing (search_in rows) rows))

abbrev pub lessons_kinds : List Row → Kinds
lessons_kinds rows = if is_no_lesson (codes "name") rows then InvalidValue ∷ [] else []

abbrev pub show_kinds : List Row → Kinds
show_kinds rows = if has_unknown sub.Show rows then InvalidValue ∷ [] else []

-- by the subcommand and what its options were given
abbrev pub kinds_by : Subcommand → List Row → Kinds
kinds_by (Deals dealing) rows = dealing_kinds dealing rows
kinds_by sub.Show rows = show_kinds rows
kinds_by Lessons rows = lessons_kinds rows
kinds_by _ rows = []

-- the kinds of error in words that clap takes
abbrev pub further_kinds : List Text → Kinds
further_kinds words = option_map_or (λ p. kinds_by p.0 p.1) (called_in words) []

-- a wish, unless there is a fault
abbrev pub unless_fault : Kinds → Option Wish → Option Wish
unless_fault [] wish = wish
unless_fault (k ∷ kinds) wish = None

-- of words that clap reads: clap's first
abbrev pub read_kinds : List Text → Kinds
read_kinds words = or_else (fault_of deals words) (further_kinds words)

-- `deals help conditions` asks for the page of the language, and not for how to call the command
-- that prints it
abbrev pub asks_page : List Text → Bool
asks_page words =
    length words == 3 && (bytes_eq (get_or words 1 []) (codes "help")
    && bytes_eq (get_or words 2 []) (codes "conditions"))

-- the kinds of error of which one is given for these words: none if they ask for something
unfoldable pub kinds_for : List Text → Kinds
kinds_for words = if asks_page words then [] else read_kinds words

-- what the words ask for, if their parse can't fail unless memory runs out
unfoldable pub asked : List Text → Option Wish
asked words =
    if asks_page words then Some conditions else unless_fault (read_kinds words) (wish_in words)
