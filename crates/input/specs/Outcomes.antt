-- How picking ends.
use Rattle.std.specs.Prelude.{◌≡◌, ℕ, ◌+◌, List, length, Option, None, Some, Result, Ok, Err}
use Rattle.std.specs.Prelude.{OnOk}
use Rattle.std.specs.Io.KnownBytes.{Consumes, IsAtEnd}
use Rattle.boards.specs.Layouts.{Layout}
use Rattle.boards.specs.Text.{text_of}
use Rattle.input.specs.NumberTexts.{ended, said}
use Rattle.input.specs.Picked.{picked_text}
use Rattle.input.specs.declared.numbers.fault.PickFault.{PickFault}
use Rattle.input.specs.declared.numbers.fault.PickFault.TheVariants.{Refused, Input, Output}
use Rattle.boards.specs.Plans.{Planned}
use Rattle.sinks.specs.Appended.{AppendsAll, AppendsPart}

-- what was appended, by the bytes that the input gave
abbrev pub PicksOf : Layout → Planned → List ℕ → Result ℕ PickFault → Option (List ℕ)
    → Option (List ℕ) → Type 0
-- all that they say
PicksOf layout plan given (Ok boards) old new =
    ((said given).refused ≡ None) × (boards ≡ length (said given).numbers)
    × AppendsAll old new (picked_text layout plan (said given))
-- the boards up to the line that is refused
PicksOf layout plan given (Err (Refused line)) old new =
    ((said given).refused ≡ Some line)
    × AppendsAll old new (picked_text layout plan (said given))
-- the boards of the lines that were ended before the input failed
PicksOf layout plan given (Err Input) old new =
    ((said (ended given)).refused ≡ None)
    × AppendsAll old new (text_of layout plan (said (ended given)).numbers)
-- not all of what they say
PicksOf layout plan given (Err Output) old new =
    AppendsPart old new (picked_text layout plan (said given))

-- `given` is what the input gave, to its end at Ok: where it tells its bytes, these are the first
-- of them
pub record Picks (layout : Layout) (plan : Planned) (result : Result ℕ PickFault)
    (before after old new : Option (List ℕ)) : Type 0 where
  pub given : List ℕ
  pub consumed : Consumes before after given
  pub all : OnOk result (IsAtEnd after)
  pub written : PicksOf layout plan given result old new

-- how often the output failed
abbrev pub FaultsOf : PickFault → ℕ → ℕ → Type 0
FaultsOf Output old new = new ≡ old + 1
FaultsOf _ old new = new ≡ old

-- how often the input failed
abbrev pub InputFaultsOf : PickFault → ℕ → ℕ → Type 0
InputFaultsOf Input old new = new ≡ old + 1
InputFaultsOf _ old new = new ≡ old
