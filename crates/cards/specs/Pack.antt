-- The numbering of seats, suits, cards and positions.
use Rattle.std.specs.Prelude.{ℕ, zero, suc, ◌/◌, ◌%◌, ◌==◌, Bool}
use Rattle.cards.specs.declared.seat.Seat.{Seat}
use Rattle.cards.specs.declared.seat.Seat.TheVariants.{North, East, South, West}
use Rattle.cards.specs.declared.suit.Suit.{Suit}
use Rattle.cards.specs.declared.suit.Suit.TheVariants.{Spades, Hearts, Diamonds, Clubs}

abbrev pub seat_number : Seat → ℕ
seat_number North = 0
seat_number East = 1
seat_number South = 2
seat_number West = 3

abbrev pub seat_of_number : ℕ → Seat
seat_of_number zero = North
seat_of_number (suc zero) = East
seat_of_number (suc (suc zero)) = South
seat_of_number _ = West

-- positions 0 to 12 are North's, 13 to 25 East's, 26 to 38 South's, 39 to 51 West's
abbrev pub seat_at_position : ℕ → Seat
seat_at_position i = seat_of_number (i / 13)

abbrev pub suit_number : Suit → ℕ
suit_number Spades = 0
suit_number Hearts = 1
suit_number Diamonds = 2
suit_number Clubs = 3

-- card c is number 13 * suit + rank; the ranks are ace 0, king 1, queen 2, jack 3, ten 4 down to
-- two 12
abbrev pub is_in_suit : Suit → ℕ → Bool
is_in_suit suit c = c / 13 == suit_number suit

abbrev pub rank_of : ℕ → ℕ
rank_of c = c % 13
