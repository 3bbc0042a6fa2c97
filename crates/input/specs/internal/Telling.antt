-- How far an input was told.
use Rattle.std.specs.Prelude.{◌≡◌, ◌<◌, ◌≤◌, ◌^◌, ℕ, ◌+◌, false, List, [], ◌∷◌, ◌++◌, length}
use Rattle.std.specs.Prelude.{Option, None, Some, ⊤, Result, Ok, Err, MatchResult}
use Prim.{⊥}
use Rattle.std.specs.Io.KnownBytes.{Consumes, IsAtEnd}
use Rattle.input.specs.NumberTexts.{ended, has_lf}
use Rattle.input.specs.TextLines.{text_lines}
use Rattle.input.specs.internal.LineEnds.{without_cr}
use Rattle.input.specs.declared.numbers.fault.PickFault.{PickFault}
use Rattle.input.specs.declared.numbers.fault.PickFault.TheVariants.{Output}
use Rattle.boards.specs.TricksLines.{TricksView}
use Rattle.cards.specs.declared.seat.Seat.{Seat}
use Rattle.notations.specs.Formats.{footer_of}
use Rattle.boards.specs.Plans.{Planned}
use Rattle.input.specs.declared.refused_line.LineFault.{LineFault}
use Rattle.input.specs.declared.refused_line.LineFault.TheVariants.{Missing, NotTricks}
use Rattle.sinks.specs.Appended.{AppendsAll, AppendsPart}
use Rattle.input.specs.Lines.{told_of}
use Rattle.input.specs.Told.{Solved, Tells, Written, after, boards_text, lines_tell, text_tells}
use Rattle.input.specs.declared.tricks.line.LineEnd.{LineEnd}
use Rattle.input.specs.declared.tricks.line.LineEnd.TheVariants.{Feed, Last, TooLong, Nothing}

-- a byte was given, or the input ended
abbrev pub GivesByte : (before after : Option (List ℕ)) → Option ℕ → Type 0
GivesByte before after None = Consumes before after [] × IsAtEnd after
GivesByte before after (Some b) = Consumes before after (b ∷ [])

abbrev pub count_of : Option ℕ → ℕ
count_of None = 0
count_of (Some b) = 1

-- what was read of a line
abbrev pub ReadsLine : LineEnd → List ℕ → (before after : Option (List ℕ)) → Type 0
ReadsLine Feed line before after =
    (has_lf line ≡ false) × Consumes before after (line ++ 10 ∷ [])
ReadsLine Last line before after =
    (has_lf line ≡ false) × (0 < length line) × Consumes before after line × IsAtEnd after
ReadsLine TooLong line before after =
    (b : ℕ) × (has_lf (line ++ b ∷ []) ≡ false) × (length line ≡ 256)
    × Consumes before after (line ++ b ∷ [])
ReadsLine Nothing line before after = Consumes before after [] × IsAtEnd after

-- the input failed within a line
abbrev pub FailsWithin : List ℕ → (before after : Option (List ℕ)) → Type 0
FailsWithin line before after = (has_lf line ≡ false) × Consumes before after line

-- a line took some bytes
abbrev pub Advances : LineEnd → (old new : ℕ) → Type 0
Advances Nothing old new = ⊤
Advances _ old new = (old < new) × (new ≤ 2 ^ 50)

-- of a text that was given in whole lines, these boards were told, and the lines of these
-- candidates' boards come next
pub record HasTold (plan : Planned) (numbers : List ℕ) (given : List ℕ) (boards : List Solved)
    (lines : ℕ) (rest : List ℕ) : Type 0 where
  pub goes_on : (more : List ℕ) → text_tells plan numbers (given ++ more)
      ≡ after boards (lines_tell plan lines rest (text_lines more))
  pub are_ended : (more : List ℕ) → has_lf more ≡ false → ended (given ++ more) ≡ given

-- the same, with the input that gave it, and what was written
pub record ToldFrom (w : Written) (plan : Planned) (numbers : List ℕ) (lines : ℕ) (rest : List ℕ)
    (before after old new : Option (List ℕ)) : Type 0 where
  pub given : List ℕ
  pub boards : List Solved
  pub consumed : Consumes before after given
  pub told : HasTold plan numbers given boards lines rest
  pub bytes : AppendsAll old new (boards_text w boards)

-- the input ended after the last of these lines
pub record ToldLast (w : Written) (plan : Planned) (numbers : List ℕ) (lines : ℕ) (rest : List ℕ)
    (before after_it old new : Option (List ℕ)) : Type 0 where
  pub given : List ℕ
  pub boards : List Solved
  pub consumed : Consumes before after_it given
  pub at_end : IsAtEnd after_it
  pub told : text_tells plan numbers given ≡ after boards (lines_tell plan lines rest [])
  pub bytes : AppendsAll old new (boards_text w boards)

-- what the bytes of a line tell
abbrev pub judged : LineEnd → List Seat → List ℕ → Result TricksView LineFault
judged Nothing deal line = Err Missing
judged TooLong deal line = Err NotTricks
judged Feed deal line = told_of deal (without_cr line)
judged Last deal line = told_of deal line

-- a board was told
abbrev pub TellsBoard : Written → Planned → List ℕ → ℕ → List ℕ → Result LineEnd PickFault
    → (before after_it base new : Option (List ℕ)) → Type 0
TellsBoard w plan numbers lines rest (Ok Feed) before after_it base new =
    ToldFrom w plan numbers (lines + 1) rest before after_it base new
TellsBoard w plan numbers lines rest (Ok Last) before after_it base new =
    ToldLast w plan numbers (lines + 1) rest before after_it base new
TellsBoard w plan numbers lines rest (Ok _) before after_it base new = ⊥
TellsBoard w plan numbers lines rest (Err fault) before after_it base new =
    Tells {T = Unit {0}} w plan numbers (Err fault) before after_it base new

-- the next board was told, or why not
abbrev pub Takes : Written → Planned → ℕ → ℕ → Result LineEnd PickFault
    → (then_it now_it old new : Option (List ℕ)) → Type 0
Takes w plan lines k result then_it now_it old new =
    (numbers rest : List ℕ) (before base : Option (List ℕ))
    → ToldFrom w plan numbers lines (k ∷ rest) before then_it base old
    → TellsBoard w plan numbers lines rest result before now_it base new

-- what comes after the boards was written
abbrev pub EndsAfter : {T : Type 0} → Written → Result T PickFault
    → (old new : Option (List ℕ)) → Type 0
EndsAfter w result old new = MatchResult result
    (λ _. AppendsAll old new (footer_of w.format))
    (λ fault. (fault ≡ Output) × AppendsPart old new (footer_of w.format))

-- no line is left over but empty ones, to the end of the input
abbrev pub PassesOver : {T : Type 0} → Written → Planned → List ℕ → Result T PickFault
    → (before after_it base now : Option (List ℕ)) → Type 0
PassesOver w plan numbers (Ok value) before after_it base now =
    (lines : ℕ) × ToldLast w plan numbers lines [] before after_it base now
PassesOver w plan numbers (Err fault) before after_it base now =
    Tells {T = Unit {0}} w plan numbers (Err fault) before after_it base now
