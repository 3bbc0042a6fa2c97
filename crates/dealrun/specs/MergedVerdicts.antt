-- The boards of lists of verdicts that are gone through in turn, one list for each worker.
use Rattle.std.specs.Prelude.{ℕ, ◌%◌, ◌/◌, List, [], length, map, filter, Option, sum}
use Rattle.std.specs.Prelude.{slice_index_or}
use Rattle.std.specs.List.{range_with_len, filter_map, slice_get, enumerate_from}
use Rattle.boards.specs.declared.board.Board.{Board}
use Rattle.lanes.specs.declared.verdict.Verdict.{Verdict}
use Rattle.lanes.specs.Views.{OutView}
use Rattle.boards.specs.Plans.{Planned}
use Rattle.boards.specs.Text.{board_of}

-- the i-th verdict in turn: item i / W of list i % W
abbrev pub at_turn : ℕ → List (List Verdict) → ℕ → Option Verdict
at_turn W lists i = slice_get (slice_index_or lists (i % W) []) (i / W)

-- the first m verdicts in turn
unfoldable pub in_turn : ℕ → List (List Verdict) → ℕ → List Verdict
in_turn W lists m = filter_map (at_turn W lists) (range_with_len 0 m)

-- the boards of the accepted ones
unfoldable pub boards_in : Planned → List Verdict → List Board
boards_in plan verdicts = map (λ p. board_of plan p.0 p.1.number p.1.deal)
    (enumerate_from 0 (filter (λ v. v.accepted) verdicts))

-- the boards of the first m verdicts in turn
abbrev pub boards_after : Planned → List (List Verdict) → ℕ → List Board
boards_after plan lists m = boards_in plan (in_turn plan.workers lists m)

-- the same of what was taken from these lanes
abbrev pub boards_taken : Planned → List OutView → ℕ → List Board
boards_taken plan lanes m = boards_after plan (map (λ l. l.taken) lanes) m

-- how many verdicts were taken in all
abbrev pub taken_in_all : List OutView → ℕ
taken_in_all lanes = sum (map (λ l. length l.taken) lanes)
