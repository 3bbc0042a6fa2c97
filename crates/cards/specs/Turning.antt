-- A deal turned around the table.
use Rattle.std.specs.Prelude.{List, map}
use Rattle.cards.specs.declared.seat.Seat.{Seat}
use Rattle.cards.specs.declared.seat.Seat.TheVariants.{North, East, South, West}

-- the next seat clockwise
abbrev pub next_seat : Seat → Seat
next_seat North = East
next_seat East = South
next_seat South = West
next_seat West = North

-- where a seat's hand goes when North's goes to the first one: they keep their order
abbrev pub goes_to : Seat → Seat → Seat
goes_to North seat = seat
goes_to East seat = next_seat seat
goes_to South seat = next_seat (next_seat seat)
goes_to West seat = next_seat (next_seat (next_seat seat))

-- each card at the seat where its holder's hand goes
abbrev pub turned : Seat → List Seat → List Seat
turned to deal = map (goes_to to) deal
