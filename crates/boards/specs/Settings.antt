-- What replaces Law 2, and whether deals are turned.
use Rattle.std.specs.Prelude.{ℕ, List, None, false, unwrap_or, if◌then◌else◌}
use Rattle.boards.specs.declared.board.Board.{Board}
use Rattle.boards.specs.declared.setting.Vul.{Vul}
use Rattle.boards.specs.declared.setting.Setting.{Setting}
use Rattle.boards.specs.Law2.{dealer_of, vulnerable_of}
use Rattle.cards.specs.declared.seat.Seat.{Seat}
use Rattle.cards.specs.Turning.{turned}

-- nothing is set: Law 2 says it all, and no deal is turned
abbrev pub by_law : Setting
by_law = record { dealer = None; vulnerable = None; rotate = false }

-- the dealer and the vulnerability of the board of this number: those that are set, or Law 2's
abbrev pub dealer_in : Setting → ℕ → Seat
dealer_in setting number = unwrap_or setting.dealer (dealer_of number)

abbrev pub vulnerable_in : Setting → ℕ → Vul
vulnerable_in setting number = unwrap_or setting.vulnerable (vulnerable_of number)

-- where deals are turned, what was North's hand is the dealer's, East's the next seat's, and so on
abbrev pub deal_in : Setting → Seat → List Seat → List Seat
deal_in setting dealer deal = if setting.rotate then turned dealer deal else deal

-- the board of this number that deals a candidate
unfoldable pub board_in : Setting → ℕ → ℕ → List Seat → Board
board_in setting number candidate deal =
    record {
      number = number;
      candidate = candidate;
      dealer = dealer_in setting number;
      vulnerable = vulnerable_in setting number;
      deal = deal_in setting (dealer_in setting number) deal;
    }
