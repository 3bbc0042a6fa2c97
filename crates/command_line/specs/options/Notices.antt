-- What is said beside the boards: options of notices, and the flag for help.
use Rattle.std.specs.Prelude.{◌||◌, Bool, List, [], ◌∷◌, codes, unwrap_or}
use Rattle.clap.specs.Words.{Row, Rule, Text}
use Rattle.clap.specs.declared.builder.value_parser.ValueParser.TheVariants as parsed
use Rattle.command_line.specs.Given.{choice_in, is_set, is_unknown}
use Rattle.command_line.specs.Rules.{asking_rule, flag_rule, lettered, option_rule}
use Rattle.requests.specs.declared.request.Notices.{Notices}
use Rattle.requests.specs.declared.when.When.{When}
use Rattle.requests.specs.declared.when.When.TheVariants.{Auto, Always, Never}

abbrev pub report_rules : List Rule
report_rules = flag_rule (codes "report") ∷ []

abbrev pub progress_rules : List Rule
progress_rules = option_rule (codes "progress") parsed.String ∷ []

abbrev pub hints_rules : List Rule
hints_rules = option_rule (codes "hints") parsed.String ∷ []

-- the flag for help, which each command has
abbrev pub help_rules : List Rule
help_rules = lettered (codes "h") (asking_rule (codes "help")) ∷ []

abbrev pub times : List (Text × When)
times = (codes "auto", Auto) ∷ (codes "always", Always) ∷ (codes "never", Never) ∷ []

-- a word was given that is none of its option's
abbrev pub has_unknown_time : List Row → Bool
has_unknown_time rows =
    is_unknown times (codes "progress") rows || is_unknown times (codes "hints") rows

abbrev pub when_in : Text → List Row → When
when_in id rows = unwrap_or (choice_in times id rows) Auto

abbrev pub notices_in : List Row → Notices
notices_in rows = record {
  report = is_set (codes "report") rows;
  progress = when_in (codes "progress") rows;
  hints = when_in (codes "hints") rows;
}
