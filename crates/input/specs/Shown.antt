-- The text that is written for a text of games.
use Rattle.std.specs.Prelude.{◌≡◌, ℕ, ◌+◌, List, [], ◌++◌, length, Option, None, Some}
use Rattle.std.specs.Prelude.{Result, Ok, Err}
use Rattle.std.specs.Prelude.{MatchResult, OnOk, flat_map}
use Rattle.std.specs.Io.KnownBytes.{Consumes, IsAtEnd}
use Rattle.boards.specs.Layouts.{SolvedLayout}
use Rattle.input.specs.Texts.{MayEnd, Spelled, after, spelled}
use Rattle.input.specs.declared.records.fault.RefusedRecord.{RefusedRecord}
use Rattle.input.specs.declared.records.reader.Next.{Next}
use Rattle.input.specs.declared.records.reader.ReadFault.{ReadFault}
use Rattle.input.specs.declared.records.reader.ReadFault.TheVariants as read
use Rattle.input.specs.declared.records.game.Told.{Told}
use Rattle.input.specs.declared.records.shown.ShowFault.{ShowFault}
use Rattle.input.specs.declared.records.shown.ShowFault.TheVariants.{Refused, Input, Output}
use Rattle.sinks.specs.Appended.{AppendsAll, AppendsPart}

-- a board, with what is told of its tricks
abbrev pub told_text : SolvedLayout → Told → List ℕ
told_text layout told = layout.board told.tricks told.board

-- the header, and these boards in order
abbrev pub text_of_told : SolvedLayout → List Told → List ℕ
text_of_told layout boards = layout.header ++ flat_map (told_text layout) boards

-- the footer; there is none where a line is refused
abbrev pub footer_for : SolvedLayout → Option RefusedRecord → List ℕ
footer_for layout None = layout.footer
footer_for layout (Some line) = []

-- the header, the boards, and the footer
abbrev pub shown_text : SolvedLayout → Spelled → List ℕ
shown_text layout s = text_of_told layout s.boards ++ footer_for layout s.refused

-- a text spells these boards first, whatever comes after it, and no more are sure
pub record BeginsWith (text : List ℕ) (boards : List Told) : Type 0 where
  pub later : List ℕ → Spelled
  pub spells : (rest : List ℕ) → spelled (text ++ rest) ≡ after boards (later rest)
  pub no_more : MayEnd later

-- what was written, by the bytes that the input gave
abbrev pub ShowsOf : SolvedLayout → List ℕ → Result ℕ ShowFault
    → (old new : Option (List ℕ)) → Type 0
-- all that they spell
ShowsOf layout given (Ok boards) old new =
    ((spelled given).refused ≡ None) × (boards ≡ length (spelled given).boards)
    × AppendsAll old new (shown_text layout (spelled given))
-- the boards up to the line that is refused
ShowsOf layout given (Err (Refused line)) old new =
    ((spelled given).refused ≡ Some line)
    × AppendsAll old new (shown_text layout (spelled given))
-- all boards that they begin with
ShowsOf layout given (Err Input) old new =
    (boards : List Told)
    × (BeginsWith given boards × AppendsAll old new (text_of_told layout boards))
-- not all of what they spell
ShowsOf layout given (Err Output) old new = AppendsPart old new (shown_text layout (spelled given))

-- `given` is what the input gave, to its end at Ok: where it tells its bytes, these are the first
-- of them
pub record Shows (layout : SolvedLayout) (result : Result ℕ ShowFault)
    (before after old new : Option (List ℕ)) : Type 0 where
  pub given : List ℕ
  pub consumed : Consumes before after given
  pub all : OnOk result (IsAtEnd after)
  pub written : ShowsOf layout given result old new

-- how often the output failed, and the input
abbrev pub FaultsOf : {T : Type 0} → Result T ShowFault → (old new : ℕ) → Type 0
FaultsOf (Err Output) old new = new ≡ old + 1
FaultsOf _ old new = new ≡ old

abbrev pub InputFaultsOf : {T : Type 0} → Result T ShowFault → (old new : ℕ) → Type 0
InputFaultsOf (Err Input) old new = new ≡ old + 1
InputFaultsOf _ old new = new ≡ old

-- a text was written after this many boards, or a part of it
abbrev pub Puts : Result ℕ ShowFault → ℕ → (old new : Option (List ℕ)) → List ℕ → Type 0
Puts result boards old new text = MatchResult result
    (λ n. (n ≡ boards) × AppendsAll old new text)
    (λ fault. (fault ≡ Output) × AppendsPart old new text)

-- the first read failed so: that ends it, unless the output fails
abbrev pub EndsBy : ReadFault → Result ℕ ShowFault → Type 0
EndsBy fault (Ok boards) = ⊥
EndsBy fault (Err (Refused line)) = fault ≡ read.Refused line
EndsBy fault (Err Input) = fault ≡ read.Input
EndsBy fault (Err Output) = Unit {0}

-- the input may fail after the first read, unless that failed
abbrev pub MoreFaults : Result Next ReadFault → Result ℕ ShowFault → (old new : ℕ) → Type 0
MoreFaults (Ok next) result old new = InputFaultsOf result old new
MoreFaults (Err fault) result old new = (new ≡ old) × EndsBy fault result
