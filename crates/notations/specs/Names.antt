-- The names of seats, as hand records and pages have them.
use Rattle.std.specs.Prelude.{ℕ, List, codes}
use Rattle.cards.specs.declared.seat.Seat.{Seat}
use Rattle.cards.specs.declared.seat.Seat.TheVariants.{North, East, South, West}

abbrev pub seat_name : Seat → List ℕ
seat_name North = codes "North"
seat_name East = codes "East"
seat_name South = codes "South"
seat_name West = codes "West"
