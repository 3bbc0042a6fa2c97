-- How far an input of numbers with tricks was read.
use Rattle.std.specs.Prelude.{◌≡◌, ◌<◌, ◌≤◌, ◌^◌, ◌==◌, ℕ, ◌+◌, Bool, true, false, not, length}
use Rattle.std.specs.Prelude.{List, [], ◌∷◌, ◌++◌, Option, None, Some, ⊤, Result, Ok, Err}
use Rattle.std.specs.Io.KnownBytes.{Consumes, IsAtEnd}
use Rattle.std.specs.List.{list_all}
use Rattle.input.specs.NumberTexts.{ended, has_lf, is_blank}
use Rattle.input.specs.TextLines.{text_lines}
use Rattle.input.specs.internal.LineEnds.{without_cr}
use Rattle.input.specs.declared.numbers.fault.PickFault.{PickFault}
use Rattle.boards.specs.Plans.{Planned}
use Rattle.input.specs.declared.refused_line.LineFault.{LineFault}
use Rattle.sinks.specs.Appended.{AppendsAll}
use Rattle.input.specs.TricksPicked.{lines_pick, text_picks}
use Rattle.input.specs.Told.{Solved, TellsBy, Told, Written, after, boards_text}
use Rattle.input.specs.declared.tricks.line.LineEnd.{LineEnd}
use Rattle.input.specs.declared.tricks.line.LineEnd.TheVariants.{Feed, Last, TooLong, Nothing}
use Rattle.input.specs.declared.tricks.picker.Picked.{Picked}
use Rattle.input.specs.declared.tricks.picker.PickStep.{PickStep}

-- ---- a line

-- no blank comes first
abbrev pub starts : List ℕ → Bool
starts [] = true
starts (b ∷ bs) = not (is_blank b)

-- what was read behind the blanks of a line, by how it ended: `whole` has those blanks
abbrev pub ReadsBehind : LineEnd → (whole line : List ℕ) → (before after_it : Option (List ℕ))
    → Type 0
ReadsBehind Feed whole line before after_it = Consumes before after_it (whole ++ 10 ∷ [])
ReadsBehind TooLong whole line before after_it =
    (b : ℕ) × ((b == 10) ≡ false) × (length line ≡ 256) × Consumes before after_it (whole ++ b ∷ [])
ReadsBehind Last whole line before after_it = Consumes before after_it whole × IsAtEnd after_it
ReadsBehind Nothing whole line before after_it = Consumes before after_it whole × IsAtEnd after_it

pub record ReadsText (end : LineEnd) (line : List ℕ) (before after_it : Option (List ℕ))
    : Type 0 where
  pub blanks : List ℕ
  pub are_blank : list_all is_blank blanks ≡ true
  pub clean : has_lf line ≡ false
  pub start : starts line ≡ true
  pub reads : ReadsBehind end (blanks ++ line) line before after_it

-- so far
pub record TextSoFar (line : List ℕ) (before after_it : Option (List ℕ)) : Type 0 where
  pub blanks : List ℕ
  pub are_blank : list_all is_blank blanks ≡ true
  pub clean : has_lf line ≡ false
  pub start : starts line ≡ true
  pub consumed : Consumes before after_it (blanks ++ line)

-- the input failed within a line
abbrev pub FailsWithinText : (before after_it : Option (List ℕ)) → Type 0
FailsWithinText before after_it =
    (read : List ℕ) × (has_lf read ≡ false) × Consumes before after_it read

-- a line with LF took some bytes
abbrev pub FeedsOn : LineEnd → (old new : ℕ) → Type 0
FeedsOn Feed old new = (old < new) × (new ≤ 2 ^ 50)
FeedsOn _ old new = ⊤

-- what was read of a line
abbrev pub text_of : LineEnd → List ℕ → List ℕ
text_of Feed line = without_cr line
text_of _ line = line

-- ---- a board

abbrev pub solved_in : Picked → Solved
solved_in p = record { board = p.board; tricks = p.tricks }

abbrev pub picked_in : Result (Option Picked) LineFault → Result (Option Solved) LineFault
picked_in (Ok None) = Ok None
picked_in (Ok (Some p)) = Ok (Some (solved_in p))
picked_in (Err fault) = Err fault

-- there may be one board more, if there is one
abbrev pub HasRoom : ℕ → Option Picked → Type 0
HasRoom boards None = ⊤
HasRoom boards (Some p) = boards < 2 ^ 40

-- ---- lines

abbrev pub no_more : Told
no_more = record { boards = []; refused = None }

-- a text was given in whole lines, and its boards were written
pub record PickedFrom (w : Written) (plan : Planned) (lines count : ℕ)
    (before after_it old new : Option (List ℕ)) : Type 0 where
  pub given : List ℕ
  pub boards : List Solved
  pub consumed : Consumes before after_it given
  pub goes_on : (more : List ℕ) → text_picks plan (given ++ more)
      ≡ after boards (lines_pick plan lines count (text_lines more))
  pub are_ended : (more : List ℕ) → has_lf more ≡ false → ended (given ++ more) ≡ given
  pub bytes : AppendsAll old new (boards_text w boards)

-- the whole input was given
pub record PickedLast (w : Written) (plan : Planned)
    (before after_it old new : Option (List ℕ)) : Type 0 where
  pub given : List ℕ
  pub boards : List Solved
  pub consumed : Consumes before after_it given
  pub at_end : IsAtEnd after_it
  pub told : text_picks plan given ≡ after boards no_more
  pub bytes : AppendsAll old new (boards_text w boards)

-- after a line with LF come others; else the input has ended
abbrev pub Stepped : Written → Planned → ℕ → LineEnd → ℕ
    → (before after_it base new : Option (List ℕ)) → Type 0
Stepped w plan lines Feed count before after_it base new =
    PickedFrom w plan (lines + 1) count before after_it base new
Stepped w plan lines _ count before after_it base new =
    PickedLast w plan before after_it base new

-- a line was picked
abbrev pub PicksLine : Written → Planned → ℕ → Result PickStep PickFault
    → (before after_it base new : Option (List ℕ)) → Type 0
PicksLine w plan lines (Ok step) before after_it base new =
    Stepped w plan lines step.end step.boards before after_it base new
PicksLine w plan lines (Err fault) before after_it base new =
    TellsBy {T = Unit {0}} w (text_picks plan) (Err fault) before after_it base new
