-- What words ask for that `clap` takes, by the subcommand that they name.
use Rattle.std.specs.Prelude.{◌≡◌, List, Some}
use Rattle.clap.specs.Walk.{Row, Text}
use Rattle.command_line.specs.CommandLine.{asked, kinds_by, kinds_for, unless_fault, wish_by}
use Rattle.command_line.specs.declared.subcommands.Subcommand.{Subcommand}
use Rattle.command_line.specs.declared.subcommands.Subcommand.TheVariants.{Deals, Stream}
use Rattle.command_line.specs.internal.Readings.{DealingValues, StreamValues}

-- the options of the subcommand have the values that are read of them
abbrev pub HasValues : Subcommand → List Row → Type 0
HasValues (Deals dealing) rows = DealingValues rows
HasValues Stream rows = StreamValues rows
HasValues _ rows = Unit {0}

-- the words ask for what this subcommand and its options do, unless there is a fault in these, and
-- no other fault is in the words
pub record Asks (words : List Text) (named : Subcommand) (rows : List Row) : Type 0 where
  pub asked_is : asked words ≡ unless_fault (kinds_by named rows) (Some (wish_by named rows))
  pub kinds_are : kinds_for words ≡ kinds_by named rows
