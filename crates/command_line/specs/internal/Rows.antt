-- The rules of the rows that the commands and their options are written as.
use Rattle.std.specs.Prelude.{fold, map}
use Rattle.clap.specs.Simple.{Shape}
use Rattle.clap.specs.Words.{App, Rule, Text, with_rule}
use Rattle.clap.specs.declared.builder.value_parser.ValueParser.TheVariants.{String}
use Rattle.command_line.specs.declared.rows.OptionRow.{OptionRow}
use Rattle.command_line.specs.declared.subcommands.SubcommandRow.{SubcommandRow}
use Rattle.command_line.specs.declared.rows.Takes.{Takes}
use Rattle.command_line.specs.declared.rows.Takes.TheVariants as kinds
use Rattle.command_line.specs.Rules.{asking_rule, bare, count_parser, flag_rule, option_rule}
use Rattle.command_line.specs.Rules.{repeated, u32_parser, u64_parser, value_rule}

abbrev pub taking : Takes → Text → Rule
taking kinds.Nothing id = flag_rule id
taking kinds.Help id = asking_rule id
taking (kinds.Text _) id = option_rule id String
taking (kinds.Texts _) id = repeated (option_rule id String)
taking (kinds.Word _) id = option_rule id String
taking (kinds.Workers _) id = option_rule id String
taking (kinds.Value _) id = value_rule id
taking (kinds.U32 _ _) id = option_rule id u32_parser
taking (kinds.U64 _) id = option_rule id u64_parser
taking (kinds.Count _) id = option_rule id count_parser

abbrev pub rule_for : OptionRow → Rule
rule_for row =
    record (taking row.takes row.id.now) { required = row.is_required; short = row.short }

abbrev pub app_for : SubcommandRow → App
app_for row =
    fold (fold with_rule) (bare row.name.now) (map (λ rows. map rule_for rows.now) row.groups.now)

abbrev pub top_for : SubcommandRow → Shape
top_for row = (app_for row).top
