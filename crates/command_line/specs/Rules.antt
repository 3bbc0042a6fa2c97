-- Options and commands in clap's terms.
use Rattle.std.specs.Prelude.{true, List, Some, fold, pos, slice_get}
use Rattle.clap.specs.Words.{App, Rule, Text, new_app, new_rule, with_rule}
use Rattle.clap.specs.declared.builder.action.ArgAction.TheVariants.{Append, Help, SetTrue}
use Rattle.clap.specs.Simple.{on_top}
use Rattle.clap.specs.declared.builder.value_parser.ValueParser.{ValueParser}
use Rattle.clap.specs.declared.builder.value_parser.ValueParser.TheVariants as parsed

-- an option `--id VALUE`
abbrev pub option_rule : Text → ValueParser → Rule
option_rule id parser =
    record (new_rule id) { long = Some id; value_names = 1; parser = Some parser }

-- a value on its own, without `--id`
abbrev pub value_rule : Text → Rule
value_rule id = record (new_rule id) { value_names = 1; parser = Some parsed.String }

-- a flag `--id`, which takes no value
abbrev pub flag_rule : Text → Rule
flag_rule id = record (new_rule id) { long = Some id; action = Some SetTrue }

-- clap's flag for help, as `--help`
abbrev pub asking_rule : Text → Rule
asking_rule id = record (new_rule id) { long = Some id; action = Some Help }

-- the same option by a letter too, as `-s`
abbrev pub lettered : Text → Rule → Rule
lettered letter rule = record rule { short = slice_get letter 0 }

abbrev pub required : Rule → Rule
required rule = record rule { required = true }

-- an option that may be given again, with a value each time
abbrev pub repeated : Rule → Rule
repeated rule = record rule { action = Some Append }

abbrev pub u32_parser : ValueParser
u32_parser = parsed.Signed (pos 0) (pos 4294967295)

abbrev pub u64_parser : ValueParser
u64_parser = parsed.Unsigned 0 18446744073709551615

-- at most 2^40
abbrev pub count_parser : ValueParser
count_parser = parsed.Unsigned 0 1099511627776

-- a command that has no option yet
abbrev pub bare : Text → App
bare name = on_top (λ s. record s { disable_help_flag = true }) (new_app name)

-- a command with these options
abbrev pub command_with : Text → List Rule → App
command_with name options = fold with_rule (bare name) options
