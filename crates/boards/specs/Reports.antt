-- The report of a run that wrote all that its plan asks for: two lines.
use Rattle.std.specs.Prelude.{ℕ, ◌+◌, ◌-◌, ◌^◌, ◌==◌, ◌||◌, List, [], ◌++◌, Option, None, Some}
use Rattle.std.specs.Prelude.{codes, decimal, length, nat_lt, if◌then◌else◌}
use Rattle.conditions.specs.Form.{Form}
use Rattle.boards.specs.Text.{accepted, end_of}
use Rattle.boards.specs.Plans.{Planned}
use Rattle.boards.specs.Formats.{numbers_boards}
use Rattle.boards.specs.declared.format.Format.{Format}

-- 1 board, 2 boards
abbrev pub boards_text : ℕ → List ℕ
boards_text boards = decimal boards ++ (if boards == 1 then codes " board" else codes " boards")

-- this many candidates, from `first` on
abbrev pub candidates_text : ℕ → ℕ → List ℕ
candidates_text first candidates =
    if candidates == 0 then codes "no candidates"
    else (if candidates == 1 then codes "1 candidate, number " ++ decimal first ++ codes ","
    else decimal candidates ++ codes " candidates, numbers " ++ decimal first
    ++ codes " to " ++ decimal (first + candidates - 1) ++ codes ",")

-- fewer boards than were asked for
abbrev pub shortfall : Option ℕ → ℕ → List ℕ
shortfall None boards = []
shortfall (Some most) boards =
    if nat_lt boards most then codes ", fewer than the " ++ decimal most ++ codes " asked for"
    else []

abbrev pub report_line : Planned → ℕ → ℕ → List ℕ
report_line plan candidates boards =
    boards_text boards ++ codes " from " ++ candidates_text plan.first candidates
    ++ codes " of seed " ++ decimal plan.seed ++ shortfall plan.limit boards ++ codes "\n"

-- where a further run goes on, unless no candidate or no board comes after
abbrev pub goes_on_at : ℕ → ℕ → List ℕ
goes_on_at first board =
    if first == 2 ^ 40 || nat_lt (2 ^ 40) board then []
    else codes "next: --first " ++ decimal first ++ codes " --first-board " ++ decimal board
    ++ codes "\n"

-- the same where boards have no numbers
abbrev pub goes_on_from : ℕ → List ℕ
goes_on_from first =
    if first == 2 ^ 40 then [] else codes "next: --first " ++ decimal first ++ codes "\n"

abbrev pub next_line : Format → Planned → ℕ → ℕ → List ℕ
next_line format plan candidates boards =
    if numbers_boards format
    then goes_on_at (plan.first + candidates) (plan.first_board + boards)
    else goes_on_from (plan.first + candidates)

-- the candidates are those up to the one whose board met the limit, or all; the boards are those of
-- the accepted ones
abbrev pub report_of : Format → Planned → Form → List ℕ
report_of format plan form =
    report_line plan (end_of plan form) (length (accepted plan form))
    ++ next_line format plan (end_of plan form) (length (accepted plan form))
