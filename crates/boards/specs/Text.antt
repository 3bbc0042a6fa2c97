-- The text of a plan under a condition, in any layout: the boards of the accepted ones of the one
-- candidate sequence. Neither the workers nor the capacity of the lanes are named.
use Rattle.std.specs.Prelude.{ℕ, ◌+◌, ◌==◌, List, ◌++◌, length, map, filter, take}
use Rattle.std.specs.Prelude.{Option, None, Some}
use Rattle.std.specs.List.{enumerate_from, flat_map, position_or_len, range_with_len}
use Rattle.boards.specs.declared.board.Board.{Board}
use Rattle.boards.specs.Layouts.{Layout}
use Rattle.boards.specs.Settings.{board_in}
use Rattle.cards.specs.declared.seat.Seat.{Seat}
use Rattle.conditions.specs.Form.{Form}
use Rattle.conditions.specs.Meaning.{holds}
use Rattle.boards.specs.Plans.{Planned, candidate_of}

-- the numbers of the accepted ones among n candidates from `first` on, in order; `deals k` is the
-- deal of candidate k
unfoldable pub accepted_among : (ℕ → List Seat) → ℕ → Form → ℕ → List ℕ
accepted_among deals first form n =
    filter (λ k. holds form (deals k)) (range_with_len first n)

-- the first `most` of them, or all if there is no limit
abbrev pub limited : Option ℕ → List ℕ → List ℕ
limited None xs = xs
limited (Some most) xs = take most xs

-- the numbers of the accepted candidates of a plan, within its limit, if these are the deals
abbrev pub accepted_by : (ℕ → List Seat) → Planned → Form → List ℕ
accepted_by deals plan form =
    limited plan.limit (accepted_among deals plan.first form plan.count)

abbrev pub accepted : Planned → Form → List ℕ
accepted plan = accepted_by (candidate_of plan) plan

-- how many candidates are needed, if these are the deals: the least number with as many accepted
-- ones as the limit says, or all
unfoldable pub needed_by : (ℕ → List Seat) → Planned → Form → ℕ
needed_by deals plan form = ends_at plan.limit
  where
    ends_at : Option ℕ → ℕ
    ends_at None = plan.count
    ends_at (Some most) = position_or_len
        (λ m. length (accepted_among deals plan.first form m) == most)
        (range_with_len 0 plan.count)

abbrev pub end_of : Planned → Form → ℕ
end_of plan = needed_by (candidate_of plan) plan

-- the board that a plan makes of a candidate's deal, after n boards. A setting may turn it: the
-- condition was asked before, of the candidate itself
abbrev pub board_of : Planned → ℕ → ℕ → List Seat → Board
board_of plan n candidate deal = board_in plan.setting (plan.first_board + n) candidate deal

-- the boards of these candidates, in order
unfoldable pub boards_of : Planned → List ℕ → List Board
boards_of plan numbers =
    map (λ p. board_of plan p.0 p.1 (candidate_of plan p.1)) (enumerate_from 0 numbers)

-- the header and these boards: a text without its footer
abbrev pub text_of_boards : Layout → List Board → List ℕ
text_of_boards layout boards = layout.header ++ flat_map layout.board boards

abbrev pub text_of : Layout → Planned → List ℕ → List ℕ
text_of layout plan numbers = text_of_boards layout (boards_of plan numbers)

-- the whole text. Its footer may depend on the boards, and on how many candidates were needed
abbrev pub text_in : Layout → Planned → Form → List ℕ
text_in layout plan form =
    text_of layout plan (accepted plan form)
    ++ layout.footer (boards_of plan (accepted plan form)) (end_of plan form)
