-- The classes of suits and of seats that `any` and `every` go through, and what they mean.
use Rattle.std.specs.Prelude.{◌≡◌, ◌==◌, ◌&&◌, ◌||◌, Bool, true, false, not, List, [], ◌∷◌, Option, Some, None, is_some}
use Rattle.std.specs.List.{filter}
use Rattle.cards.specs.declared.seat.Seat.{Seat as ASeat}
use Rattle.cards.specs.declared.seat.Seat.TheVariants.{North, East, South, West}
use Rattle.cards.specs.declared.suit.Suit.{Suit as ASuit}
use Rattle.cards.specs.declared.suit.Suit.TheVariants.{Spades, Hearts, Diamonds, Clubs}
use Rattle.cards.specs.Pack.{suit_number}
use Rattle.cards.specs.Turning.{next_seat}
use Rattle.cond_lang.specs.declared.classes.Bound.{Bound}
use Rattle.cond_lang.specs.declared.classes.Choice.{Choice}
use Rattle.cond_lang.specs.declared.classes.Class.{Class as AClass}
use Rattle.cond_lang.specs.declared.classes.Class.TheVariants.{Suit as AnySuit, Major, Minor, Other, Seat as AnySeat, NorthSouth, EastWest}
use Rattle.cond_lang.specs.declared.classes.Neighbour.{Neighbour as ANeighbour}
use Rattle.cond_lang.specs.declared.classes.Neighbour.TheVariants.{Partner, Left, Right}
use Rattle.cond_lang.specs.declared.classes.Params.{Params}
use Rattle.cond_lang.specs.declared.classes.Params.TheVariants.{Plain, OfSeat, OfSuit, OfBoth}
use Rattle.cond_lang.specs.declared.scanner.Token.{Token}
use Rattle.cond_lang.specs.declared.scanner.Token.TheVariants.{Suit, Class}

-- the suit that a class means, where the class is bound; a class of seats means none
abbrev pub bound_to : Bound → AClass → Option ASuit
bound_to E AnySuit = E.suit
bound_to E Major = E.major
bound_to E Minor = E.minor
bound_to E Other = E.other
bound_to E c = None

-- the seat that a class means, where the class is bound; a class of suits means none
abbrev pub seat_bound_to : Bound → AClass → Option ASeat
seat_bound_to E AnySeat = E.seat
seat_bound_to E NorthSouth = E.north_south
seat_bound_to E EastWest = E.east_west
seat_bound_to E c = None

abbrev pub is_bound : Bound → AClass → Bool
is_bound E c = is_some (bound_to E c) || is_some (seat_bound_to E c)

-- outside of all brackets no class is bound
abbrev pub unbound : Bound
unbound =
    record {
      suit = None;
      major = None;
      minor = None;
      other = None;
      seat = None;
      north_south = None;
      east_west = None;
    }

-- inside the brackets of a class its word means one suit of the class, or one seat
abbrev pub bind : Bound → AClass → Choice → Bound
bind E AnySuit x = record E { suit = Some x.suit }
bind E Major x = record E { major = Some x.suit }
bind E Minor x = record E { minor = Some x.suit }
bind E Other x = record E { other = Some x.suit }
bind E AnySeat x = record E { seat = Some x.seat }
bind E NorthSouth x = record E { north_south = Some x.seat }
bind E EastWest x = record E { east_west = Some x.seat }

-- a class can't be bound inside itself, and `other` only inside another class of suits
abbrev pub can_bind : Bound → AClass → Bool
can_bind E Other =
    not (is_bound E Other) && (is_bound E AnySuit || (is_bound E Major || is_bound E Minor))
can_bind E c = not (is_bound E c)

abbrev pub is_major : ASuit → Bool
is_major Spades = true
is_major Hearts = true
is_major s = false

abbrev pub is_this : Option ASuit → ASuit → Bool
is_this None s = false
is_this (Some t) s = suit_number t == suit_number s

-- whether an enclosing class means the suit
abbrev pub is_taken : Bound → ASuit → Bool
is_taken E s = is_this E.suit s || (is_this E.major s || is_this E.minor s)

abbrev pub is_north_or_south : ASeat → Bool
is_north_or_south North = true
is_north_or_south South = true
is_north_or_south q = false

-- whether the suit or the seat is one of the class: `other` has the suits that no enclosing class
-- means
abbrev pub is_member : Bound → AClass → Choice → Bool
is_member E AnySuit x = true
is_member E Major x = is_major x.suit
is_member E Minor x = not (is_major x.suit)
is_member E Other x = not (is_taken E x.suit)
is_member E AnySeat x = true
is_member E NorthSouth x = is_north_or_south x.seat
is_member E EastWest x = not (is_north_or_south x.seat)

-- each suit, and beside it the seat that has its place: a class goes through one or the other
abbrev pub choice : ASuit → ASeat → Choice
choice s q = record { suit = s; seat = q }

abbrev pub all_choices : List Choice
all_choices =
    choice Spades North ∷ choice Hearts East ∷ choice Diamonds South ∷ choice Clubs West ∷ []

-- the suits or the seats of the class
abbrev pub members : Bound → AClass → List Choice
members E c = filter (is_member E c) all_choices

-- a suit's word names the suit, and a bound class's word the suit that the class means
pub data Names (E : Bound) : Token → ASuit → Type 0 where
  by_suit : {s : ASuit} → Names E (Suit s) s
  by_class : {c : AClass} {s : ASuit} → bound_to E c ≡ Some s → Names E (Class c) s

-- the seat across, the next clockwise, and the one before
abbrev pub seat_beside : ANeighbour → ASeat → ASeat
seat_beside Partner q = next_seat (next_seat q)
seat_beside Left q = next_seat q
seat_beside Right q = next_seat (next_seat (next_seat q))

-- inside a name's body `seat` and `suit` mean its arguments, where it has them, and no other class
-- is bound
abbrev pub given : Params → Choice → Bound
given Plain x = unbound
given OfSeat x = bind unbound AnySeat x
given OfSuit x = bind unbound AnySuit x
given OfBoth x = bind (bind unbound AnySeat x) AnySuit x
