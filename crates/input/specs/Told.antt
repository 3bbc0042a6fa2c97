-- What a text of lines tells of boards in order, a line for each; and the text that is written.
use Rattle.std.specs.Prelude.{◌≡◌, ℕ, ◌+◌, List, [], ◌∷◌, ◌++◌, Option, None, Some, Result, Ok, Err}
use Rattle.std.specs.Prelude.{OnOk, true, ⊤}
use Rattle.std.specs.Io.KnownBytes.{Consumes, IsAtEnd}
use Rattle.std.specs.List.{flat_map}
use Rattle.boards.specs.declared.board.Board.{Board}
use Rattle.boards.specs.declared.format.Format.{Format}
use Rattle.boards.specs.declared.show.Show.{Show}
use Rattle.boards.specs.Headings.{HeadingView}
use Rattle.boards.specs.TricksLines.{TricksView}
use Rattle.notations.specs.Formats.{PrintingAs, beside_hands, board_text, footer_of, header_with_tricks}
use Rattle.input.specs.NumberTexts.{ended}
use Rattle.input.specs.TextLines.{text_lines}
use Rattle.input.specs.Outcomes.{FaultsOf, InputFaultsOf}
use Rattle.input.specs.declared.numbers.fault.PickFault.{PickFault}
use Rattle.input.specs.declared.numbers.fault.PickFault.TheVariants.{Refused, Input, Output}
use Rattle.boards.specs.Plans.{Planned, candidate_of}
use Rattle.boards.specs.Text.{board_of}
use Rattle.input.specs.declared.refused_line.LineFault.{LineFault}
use Rattle.input.specs.declared.refused_line.LineFault.TheVariants.{Missing, MoreThanBoards}
use Rattle.input.specs.declared.refused_line.RefusedLine.{RefusedLine}
use Rattle.sinks.specs.Appended.{AppendsAll, AppendsPart}
use Rattle.input.specs.Lines.{told_of}

-- a board, and what its line tells of it
pub record Solved : Type 0 where
  pub board : Board
  pub tricks : TricksView

-- the boards before the first line that is refused, and that one, if there is one
pub record Told : Type 0 where
  pub boards : List Solved
  pub refused : Option RefusedLine

-- the line after this many others is refused
abbrev pub refused_after : ℕ → LineFault → Told
refused_after lines fault = record {
  boards = [];
  refused = Some (record { line = lines + 1; fault = fault });
}

-- these boards, and then those
abbrev pub after : List Solved → Told → Told
after boards later = record { boards = boards ++ later.boards; refused = later.refused }

-- what is told of a board by the line after this many others, and what is told later
abbrev pub by_line : ℕ → Board → Result TricksView LineFault → Told → Told
by_line lines board (Err fault) later = refused_after lines fault
by_line lines board (Ok tricks) later =
    after (record { board = board; tricks = tricks } ∷ []) later

-- no line is left over but empty ones
abbrev pub left_over : ℕ → List (List ℕ) → Told
left_over lines [] = record { boards = []; refused = None }
left_over lines ([] ∷ ls) = left_over (lines + 1) ls
left_over lines ((b ∷ bs) ∷ ls) = refused_after lines MoreThanBoards

-- what lines tell of the boards of these candidates, after as many boards and lines before
abbrev pub lines_tell : Planned → ℕ → List ℕ → List (List ℕ) → Told
lines_tell plan lines [] ls = left_over lines ls
lines_tell plan lines (k ∷ ks) [] = refused_after lines Missing
lines_tell plan lines (k ∷ ks) (l ∷ ls) =
    by_line lines (board_of plan lines k (candidate_of plan k))
    (told_of (board_of plan lines k (candidate_of plan k)).deal l)
    (lines_tell plan (lines + 1) ks ls)

unfoldable pub text_tells : Planned → List ℕ → List ℕ → Told
text_tells plan numbers text = lines_tell plan 0 numbers (text_lines text)

-- ---- what is written

-- in this format, with these hands; the plan has the heading
pub record Written : Type 0 where
  pub format : Format
  pub show : Show
  pub heading : HeadingView

abbrev pub written_by : PrintingAs → Written
written_by p = record { format = p.format; show = p.show; heading = p.heading }

-- the printer writes boards with tricks
abbrev pub IsReady : PrintingAs → Type 0
IsReady p = p.tricks ≡ true

-- a board: tricks are written only beside all hands
abbrev pub solved_text : Written → Solved → List ℕ
solved_text w s = board_text w.format w.show w.heading (beside_hands w.show s.tricks) s.board

-- the header and these boards
abbrev pub boards_text : Written → List Solved → List ℕ
boards_text w boards = header_with_tricks w.format w.heading ++ flat_map (solved_text w) boards

-- the footer; there is none where a line is refused
abbrev pub footer_for : Written → Option RefusedLine → List ℕ
footer_for w None = footer_of w.format
footer_for w (Some line) = []

abbrev pub told_text : Written → Told → List ℕ
told_text w t = boards_text w t.boards ++ footer_for w t.refused

-- ---- how it ends

-- no line that was given is refused: one may be missing
abbrev pub NotRefused : Option RefusedLine → Type 0
NotRefused None = ⊤
NotRefused (Some line) = line.fault ≡ Missing

-- what was appended, by the bytes that the input gave, and by what they tell
abbrev pub AppendsTold : {T : Type 0} → Written → (List ℕ → Told) → List ℕ → Result T PickFault
    → (old new : Option (List ℕ)) → Type 0
-- all, where no line is refused
AppendsTold w tells given (Ok value) old new =
    ((tells given).refused ≡ None) × AppendsAll old new (told_text w (tells given))
-- the boards up to the line that is refused
AppendsTold w tells given (Err (Refused line)) old new =
    ((tells given).refused ≡ Some line) × AppendsAll old new (told_text w (tells given))
-- the boards of the lines that were ended before the input failed, none of which is refused
AppendsTold w tells given (Err Input) old new =
    NotRefused (tells (ended given)).refused
    × AppendsAll old new (boards_text w (tells (ended given)).boards)
-- not all of what they tell
AppendsTold w tells given (Err Output) old new = AppendsPart old new (told_text w (tells given))

-- `given` is what the input gave, to its end at Ok: where it tells its bytes, these are the first
-- of them
pub record TellsBy {T : Type 0} (w : Written) (tells : List ℕ → Told) (result : Result T PickFault)
    (before after old new : Option (List ℕ)) : Type 0 where
  pub given : List ℕ
  pub consumed : Consumes before after given
  pub all : OnOk result (IsAtEnd after)
  pub written : AppendsTold w tells given result old new

-- the boards of these candidates of the plan were told
abbrev pub Tells : {T : Type 0} → Written → Planned → List ℕ → Result T PickFault
    → (before after old new : Option (List ℕ)) → Type 0
Tells w plan numbers result before after old new =
    TellsBy w (text_tells plan numbers) result before after old new

-- how often the output failed, and the input
abbrev pub FaultsIn : {T : Type 0} → Result T PickFault → (old new : ℕ) → Type 0
FaultsIn (Ok value) old new = new ≡ old
FaultsIn (Err fault) old new = FaultsOf fault old new

abbrev pub InputFaultsIn : {T : Type 0} → Result T PickFault → (old new : ℕ) → Type 0
InputFaultsIn (Ok value) old new = new ≡ old
InputFaultsIn (Err fault) old new = InputFaultsOf fault old new
