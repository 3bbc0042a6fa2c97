-- The subcommands of the program, each with its options.
use Rattle.std.specs.Prelude.{true, List, ◌∷◌, ◌++◌, [], codes, fold, map}
use Rattle.clap.specs.Words.{App, new_app, with_subcommand}
use Rattle.clap.specs.Simple.{on_top}
use Rattle.command_line.specs.Rules.{command_with}
use Rattle.command_line.specs.declared.subcommands.Dealing.TheVariants.{Count, Find, Make, Pick}
use Rattle.command_line.specs.declared.subcommands.Subcommand.{Subcommand}
use Rattle.command_line.specs.declared.subcommands.Subcommand.TheVariants.{Conditions, Deals, Lessons, Seed, Show, Stream}
use Rattle.command_line.specs.options.Look.{board_rules, format_rules, show_rules, text_rules}
use Rattle.command_line.specs.options.Notices.{help_rules, hints_rules, progress_rules, report_rules}
use Rattle.command_line.specs.options.Others.{count_rules, name_rules}
use Rattle.command_line.specs.options.Questions.{question_rules}
use Rattle.command_line.specs.options.Search.{hand_rules, search_rules, seed_rules, speed_rules}

-- `deals make --seed S` and its further options
abbrev pub make_app : App
make_app = command_with (codes "make") (
    seed_rules ++ search_rules ++ hand_rules
    ++ format_rules ++ show_rules ++ board_rules ++ text_rules
    ++ speed_rules ++ report_rules ++ progress_rules ++ hints_rules ++ help_rules)

-- `deals find --seed S` and its further options
abbrev pub find_app : App
find_app = command_with (codes "find") (
    seed_rules ++ search_rules ++ hand_rules
    ++ speed_rules ++ report_rules ++ progress_rules ++ hints_rules ++ help_rules)

-- `deals count --seed S` and its further options
abbrev pub count_app : App
count_app = command_with (codes "count") (
    seed_rules ++ search_rules ++ hand_rules ++ question_rules ++ format_rules
    ++ speed_rules ++ progress_rules ++ hints_rules ++ help_rules)

-- `deals pick --seed S` and its further options
abbrev pub pick_app : App
pick_app = command_with (codes "pick") (
    seed_rules ++ hand_rules
    ++ format_rules ++ show_rules ++ board_rules ++ text_rules ++ hints_rules ++ help_rules)

-- `deals show` and its options
abbrev pub show_app : App
show_app = command_with (codes "show") (
    format_rules ++ show_rules ++ text_rules ++ hints_rules ++ help_rules)

-- `deals conditions`, without options
abbrev pub conditions_app : App
conditions_app = command_with (codes "conditions") help_rules

-- `deals lessons`, with the name of one or without
abbrev pub lessons_app : App
lessons_app = command_with (codes "lessons") (name_rules ++ help_rules)

-- `deals seed`, without options
abbrev pub seed_app : App
seed_app = command_with (codes "seed") help_rules

-- `deals stream --seed S --count N`
abbrev pub stream_app : App
stream_app = command_with (codes "stream") (seed_rules ++ count_rules ++ help_rules)

-- `deals`, with clap's own `help` and `--version`, and a subcommand that has to be named
abbrev pub deals_top : App
deals_top = on_top (λ s. record s { has_version = true; subcommand_required = true })
    (new_app (codes "deals"))

-- the subcommands, in the order of the help
abbrev pub subcommands : List (Subcommand × App)
subcommands =
    (Deals Make, make_app) ∷ (Deals Find, find_app) ∷ (Deals Count, count_app)
    ∷ (Deals Pick, pick_app) ∷ (Show, show_app) ∷ (Conditions, conditions_app)
    ∷ (Lessons, lessons_app) ∷ (Seed, seed_app) ∷ (Stream, stream_app) ∷ []

abbrev pub deals : App
deals = fold with_subcommand deals_top (map (λ p. p.1.top) subcommands)
