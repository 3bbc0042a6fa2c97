-- Options of subcommands that deal nothing.
use Rattle.std.specs.Prelude.{List, [], ◌∷◌, codes}
use Rattle.clap.specs.Words.{Row, Rule}
use Rattle.command_line.specs.Given.{number_or}
use Rattle.command_line.specs.Rules.{count_parser, option_rule, required, value_rule}
use Rattle.command_line.specs.options.Search.{lesson_in}
use Rattle.requests.specs.Requests.{Wish, lessons, stream}

-- the name of a lesson
abbrev pub name_rules : List Rule
name_rules = value_rule (codes "name") ∷ []

-- how many values
abbrev pub count_rules : List Rule
count_rules = required (option_rule (codes "count") count_parser) ∷ []

abbrev pub lessons_wish : List Row → Wish
lessons_wish rows = lessons (lesson_in (codes "name") rows)

abbrev pub stream_wish : List Row → Wish
stream_wish rows = stream (number_or 0 (codes "seed") rows) (number_or 0 (codes "count") rows)
