-- What a text of numbers with tricks tells: a line is a number as `pick` reads it, a blank, and a
-- line of tricks.
use Rattle.std.specs.Prelude.{ℕ, ◌+◌, ◌^◌, ◌==◌, List, [], ◌∷◌, Option, None, Some, Result, Ok, Err}
use Rattle.std.specs.Prelude.{if◌then◌else◌}
use Rattle.boards.specs.declared.board.Board.{Board}
use Rattle.boards.specs.TricksLines.{TricksView}
use Rattle.input.specs.NumberTexts.{is_blank, line_says, without_first_blanks}
use Rattle.input.specs.TextLines.{text_lines}
use Rattle.boards.specs.Plans.{Planned, candidate_of}
use Rattle.boards.specs.Text.{board_of}
use Rattle.input.specs.declared.refused_line.LineFault.{LineFault}
use Rattle.input.specs.declared.refused_line.LineFault.TheVariants.{TooMany}
use Rattle.input.specs.Lines.{told_of}
use Rattle.input.specs.Told.{Solved, Told, after, refused_after}

-- what is before the first blank of a line, and what is after it
abbrev pub first_word : List ℕ → List ℕ
first_word [] = []
first_word (b ∷ bs) = if is_blank b then [] else b ∷ first_word bs

abbrev pub behind_word : List ℕ → List ℕ
behind_word [] = []
behind_word (b ∷ bs) = if is_blank b then bs else behind_word bs

-- blanks in front count for nothing
abbrev pub number_part : List ℕ → List ℕ
number_part line = first_word (without_first_blanks line)

abbrev pub tricks_part : List ℕ → List ℕ
tricks_part line = behind_word (without_first_blanks line)

-- the board with its tricks, unless there are none, or they are of another deal
abbrev pub solved_by : Board → Result TricksView LineFault → Result (Option Solved) LineFault
solved_by board (Ok tricks) = Ok (Some (record { board = board; tricks = tricks }))
solved_by board (Err fault) = Err fault

-- by what the number says, after as many boards: no board, where there is no number
abbrev pub board_by : Planned → ℕ → List ℕ → Result (Option ℕ) LineFault
    → Result (Option Solved) LineFault
board_by plan count tricks (Err fault) = Err fault
board_by plan count tricks (Ok None) = Ok None
board_by plan count tricks (Ok (Some k)) =
    if count == 2 ^ 40 then Err TooMany
    else solved_by (board_of plan count k (candidate_of plan k))
    (told_of (board_of plan count k (candidate_of plan k)).deal tricks)

-- what a line tells: a board, nothing, or what is wrong with it
abbrev pub line_tells : Planned → ℕ → List ℕ → Result (Option Solved) LineFault
line_tells plan count line =
    board_by plan count (tricks_part line) (line_says (number_part line))

-- what a line tells, after this many lines with this many boards; and what the lines after it tell,
-- by how many boards come before those
abbrev pub with_line : ℕ → ℕ → Result (Option Solved) LineFault → (ℕ → Told) → Told
with_line lines count (Err fault) later = refused_after lines fault
with_line lines count (Ok None) later = later count
with_line lines count (Ok (Some s)) later = after (s ∷ []) (later (count + 1))

abbrev pub lines_pick : Planned → ℕ → ℕ → List (List ℕ) → Told
lines_pick plan lines count [] = record { boards = []; refused = None }
lines_pick plan lines count (l ∷ ls) =
    with_line lines count (line_tells plan count l) (λ n. lines_pick plan (lines + 1) n ls)

-- what a text tells
unfoldable pub text_picks : Planned → List ℕ → Told
text_picks plan text = lines_pick plan 0 0 (text_lines text)
