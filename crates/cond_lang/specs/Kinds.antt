-- All kinds of tokens but the names, and the end.
use Rattle.std.specs.Prelude.{◌≡◌, ℕ, ◌+◌, List, [], ◌∷◌, ◌++◌, Some, length, map, slice_get}
use Rattle.cards.specs.Measures.{measure_number, measures}
use Rattle.cards.specs.Orders.{order_number, orders}
use Rattle.cond_lang.specs.declared.classes.Class.TheVariants.{Suit, Major, Minor, Other, Seat, NorthSouth, EastWest}
use Rattle.cond_lang.specs.declared.classes.Neighbour.TheVariants.{Partner, Left, Right}
use Rattle.cond_lang.specs.declared.classes.Quantifier.TheVariants.{Any, Every}
use Rattle.cond_lang.specs.declared.words.Kind.{Kind}
use Rattle.cond_lang.specs.declared.words.Kind.TheVariants as kind

-- all kinds but the names, in the order in which a person is told them
abbrev pub all_kinds : List Kind
all_kinds =
    kind.Let ∷ kind.Not ∷ kind.Open ∷ kind.Balanced ∷ kind.Shape ∷ kind.Pattern
    ∷ kind.Quantifier Any ∷ kind.Quantifier Every ∷ kind.Stops ∷ kind.Number
    ∷ map kind.Measure measures
    ++ kind.Cards ∷ kind.Len ∷ map kind.Ordered orders
    ++ kind.Plus
    ∷ kind.Star ∷ kind.Relation ∷ kind.In ∷ kind.Dash ∷ kind.X ∷ kind.Comma ∷ kind.Seat
    ∷ kind.Class Seat ∷ kind.Class NorthSouth ∷ kind.Class EastWest
    ∷ kind.Neighbour Partner ∷ kind.Neighbour Left ∷ kind.Neighbour Right ∷ kind.Suit
    ∷ kind.Class Suit ∷ kind.Class Major ∷ kind.Class Minor ∷ kind.Class Other
    ∷ kind.Ranks ∷ kind.Is ∷ kind.Close ∷ kind.And ∷ kind.Or ∷ kind.End ∷ []

-- a name isn't listed
abbrev pub IsListed : Kind → Type 0
IsListed (kind.Name n) = ⊥
IsListed k = Unit {0}

-- how many kinds are a measure or an order
abbrev of_tables : ℕ
of_tables = length measures + length orders

-- the place of a kind among all, and the end of all for a name
abbrev pub place_of : Kind → ℕ
place_of kind.Let = 0
place_of kind.Not = 1
place_of kind.Open = 2
place_of kind.Balanced = 3
place_of kind.Shape = 4
place_of kind.Pattern = 5
place_of (kind.Quantifier Any) = 6
place_of (kind.Quantifier Every) = 7
place_of kind.Stops = 8
place_of kind.Number = 9
place_of (kind.Measure m) = 10 + measure_number m
place_of kind.Cards = 10 + length measures
place_of kind.Len = 11 + length measures
place_of (kind.Ordered o) = 12 + length measures + order_number o
place_of kind.Plus = 12 + of_tables
place_of kind.Star = 13 + of_tables
place_of kind.Relation = 14 + of_tables
place_of kind.In = 15 + of_tables
place_of kind.Dash = 16 + of_tables
place_of kind.X = 17 + of_tables
place_of kind.Comma = 18 + of_tables
place_of kind.Seat = 19 + of_tables
place_of (kind.Class Seat) = 20 + of_tables
place_of (kind.Class NorthSouth) = 21 + of_tables
place_of (kind.Class EastWest) = 22 + of_tables
place_of (kind.Neighbour Partner) = 23 + of_tables
place_of (kind.Neighbour Left) = 24 + of_tables
place_of (kind.Neighbour Right) = 25 + of_tables
place_of kind.Suit = 26 + of_tables
place_of (kind.Class Suit) = 27 + of_tables
place_of (kind.Class Major) = 28 + of_tables
place_of (kind.Class Minor) = 29 + of_tables
place_of (kind.Class Other) = 30 + of_tables
place_of kind.Ranks = 31 + of_tables
place_of kind.Is = 32 + of_tables
place_of kind.Close = 33 + of_tables
place_of kind.And = 34 + of_tables
place_of kind.Or = 35 + of_tables
place_of kind.End = 36 + of_tables
place_of (kind.Name n) = 37 + of_tables

-- the kind is in the list of all at its place, and nowhere else
abbrev pub IsListedOnce : Kind → Type 0
IsListedOnce k =
    (slice_get all_kinds (place_of k) ≡ Some k)
    × ((i : ℕ) → slice_get all_kinds i ≡ Some k → i ≡ place_of k)
