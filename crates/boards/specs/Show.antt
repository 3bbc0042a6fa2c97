-- What is written of a board: which hands, and their points.
use Rattle.std.specs.Prelude.{ℕ, ◌==◌, ◌||◌, Bool, true, List, [], ◌∷◌, Option, Some, None, codes}
use Rattle.std.specs.Prelude.{if◌then◌else◌}
use Rattle.cards.specs.declared.seat.Seat.{Seat}
use Rattle.cards.specs.declared.seat.Seat.TheVariants.{North, East, South, West}
use Rattle.cards.specs.Hands.{hand_of}
use Rattle.cards.specs.Pack.{seat_number}
use Rattle.boards.specs.declared.board.Board.{Board}
use Rattle.boards.specs.declared.show.Seats.{Seats}
use Rattle.boards.specs.declared.show.Seats.TheVariants as show
use Rattle.boards.specs.declared.show.Show.{Show}

-- the words that ask for hands
abbrev pub show_words : List (List ℕ × Seats)
show_words =
    (codes "all", show.All) ∷ (codes "dealer", show.Dealer)
    ∷ (codes "north", show.North) ∷ (codes "east", show.East)
    ∷ (codes "south", show.South) ∷ (codes "west", show.West)
    ∷ (codes "ns", show.NorthSouth) ∷ (codes "ew", show.EastWest) ∷ []

abbrev pub is_same : Seat → Seat → Bool
is_same seat other = seat_number seat == seat_number other

-- whether the hand in a seat is written
abbrev pub shows : Seats → Board → Seat → Bool
shows show.All board seat = true
shows show.Dealer board seat = is_same seat board.dealer
shows show.North board seat = is_same seat North
shows show.East board seat = is_same seat East
shows show.South board seat = is_same seat South
shows show.West board seat = is_same seat West
shows show.NorthSouth board seat = is_same seat North || is_same seat South
shows show.EastWest board seat = is_same seat East || is_same seat West

-- the hand in a seat, if it is written
abbrev pub hand_in : Show → Board → Seat → Option (List Bool)
hand_in show board seat =
    if shows show.seats board seat then Some (hand_of board.deal seat) else None

-- the hand in a seat, if its points are written
abbrev pub counted_in : Show → Board → Seat → Option (List Bool)
counted_in show board seat = if show.points then hand_in show board seat else None

-- all hands, with their points
abbrev pub all_shown : Show
all_shown = record { seats = show.All; points = true }
