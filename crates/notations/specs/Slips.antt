-- Curtain cards: a page of HTML like the other, with a slip to be cut out for each hand.
use Rattle.std.specs.Prelude.{ℕ, Bool, List, [], ◌++◌, Option, Some, None, codes, decimal}
use Rattle.cards.specs.declared.seat.Seat.{Seat}
use Rattle.cards.specs.declared.seat.Seat.TheVariants.{North, East, South, West}
use Rattle.boards.specs.declared.board.Board.{Board}
use Rattle.boards.specs.declared.show.Show.{Show}
use Rattle.boards.specs.Show.{hand_in}
use Rattle.notations.specs.Names.{seat_name}
use Rattle.notations.specs.Pages.{facts_text, suits_text}

-- a board's number and a seat
unfoldable pub place_text : ℕ → Seat → List ℕ
place_text number seat =
    codes "<section class=\"slip\">\n<h2>" ++ decimal number ++ codes " " ++ seat_name seat
    ++ codes "</h2>\n"

-- a hand
unfoldable pub held_text : List Bool → List ℕ
held_text hand = codes "<div>" ++ suits_text hand ++ codes "</div>\n</section>\n"

-- the slip of the hand in a seat, if it is shown: the board's number and the seat, who deals, which
-- sides are vulnerable, and the hand
unfoldable pub slip_text : Board → Seat → Option (List Bool) → List ℕ
slip_text board seat None = []
slip_text board seat (Some hand) =
    place_text board.number seat ++ facts_text board.dealer board.vulnerable ++ held_text hand

-- the slips of the hands that are shown
unfoldable pub slips_text : Show → Board → List ℕ
slips_text show board =
    slip_text board North (hand_in show board North)
    ++ slip_text board East (hand_in show board East)
    ++ slip_text board South (hand_in show board South)
    ++ slip_text board West (hand_in show board West)
