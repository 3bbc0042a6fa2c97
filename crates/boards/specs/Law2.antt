-- Laws of Duplicate Bridge, Law 2: dealer and vulnerability of boards 1 to 16; board 17 is as board
-- 1, and so on.
use Rattle.std.specs.Prelude.{ℕ, ◌-◌, ◌%◌, List, [], ◌∷◌, slice_index_or}
use Rattle.cards.specs.declared.seat.Seat.{Seat}
use Rattle.cards.specs.declared.seat.Seat.TheVariants.{North, East, South, West}
use Rattle.boards.specs.declared.board.Board.{Board}
use Rattle.boards.specs.declared.setting.Vul.{Vul}
use Rattle.boards.specs.declared.setting.Vul.TheVariants.{Neither, NorthSouth, EastWest, Both}

-- boards 1 to 16
abbrev pub boards : List (Seat × Vul)
boards =
    (North, Neither) ∷ (East, NorthSouth) ∷ (South, EastWest) ∷ (West, Both)
    ∷ (North, NorthSouth) ∷ (East, EastWest) ∷ (South, Both) ∷ (West, Neither)
    ∷ (North, EastWest) ∷ (East, Both) ∷ (South, Neither) ∷ (West, NorthSouth)
    ∷ (North, Both) ∷ (East, Neither) ∷ (South, NorthSouth) ∷ (West, EastWest)
    ∷ []

-- the entry of a board, whose number is at least 1
abbrev pub entry_of : ℕ → Seat × Vul
entry_of board = slice_index_or boards ((board - 1) % 16) (North, Neither)

abbrev pub dealer_of : ℕ → Seat
dealer_of board = (entry_of board).0

abbrev pub vulnerable_of : ℕ → Vul
vulnerable_of board = (entry_of board).1

-- the board of this number that deals a candidate
abbrev pub board_by_law : ℕ → ℕ → List Seat → Board
board_by_law number candidate deal =
    record {
      number = number;
      candidate = candidate;
      dealer = dealer_of number;
      vulnerable = vulnerable_of number;
      deal = deal;
    }
