-- Whether a game ended, and the board that is told then.
use Rattle.std.specs.Prelude.{Bool, true, false, Option, None, Some, Result, Ok, Err}
use Rattle.input.specs.declared.records.game.Told.{Told}
use Rattle.input.specs.declared.records.reader.Found.{Found}
use Rattle.input.specs.declared.records.reader.Found.TheVariants as seen
use Rattle.input.specs.declared.records.reader.Next.{Next}
use Rattle.input.specs.declared.records.reader.Next.TheVariants.{Board, Last, End}
use Rattle.input.specs.declared.records.reader.ReadFault.{ReadFault}

abbrev pub told_if : Bool → Told → Option Told
told_if false told = None
told_if true told = Some told

-- what comes next of an input, with the board that was told
abbrev pub next_found : Result Found ReadFault → Told → Result Next ReadFault
next_found (Ok seen.Board) told = Ok (Board told)
next_found (Ok seen.Last) told = Ok (Last told)
next_found (Ok seen.End) told = Ok End
next_found (Err fault) told = Err fault
