-- A hand is the list of 52 truth values "this card is the seat's": its points, lengths and shape.
use Rattle.std.specs.Prelude.{ℕ, ◌==◌, ◌&&◌, ◌||◌, Bool, true, false, cond, List, [], ◌∷◌, map, count_by, slice_index_or}
use Rattle.std.specs.List.{flat_map, list_any, sum_by}
use Rattle.cards.specs.declared.seat.Seat.{Seat}
use Rattle.cards.specs.declared.suit.Suit.{Suit}
use Rattle.cards.specs.declared.suit.Suit.TheVariants.{Spades, Hearts, Diamonds, Clubs}
use Rattle.cards.specs.Pack.{seat_number, is_in_suit, rank_of}
use Rattle.cards.specs.Shuffle.{pack}

-- the cards of a seat
abbrev pub hand_of : List Seat → Seat → List Bool
hand_of deal seat = map (λ holder. seat_number holder == seat_number seat) deal

abbrev pub holds_card : List Bool → ℕ → Bool
holds_card hand c = slice_index_or hand c false

-- whether the hand has the card, and the card is one of the suit
abbrev pub holds_in : List Bool → Suit → ℕ → Bool
holds_in hand suit c = is_in_suit suit c && holds_card hand c

-- how many cards of the suit the hand has
abbrev pub length_of : List Bool → Suit → ℕ
length_of hand suit = count_by (holds_in hand suit) pack

-- what the hand's cards, and its cards of one suit, count together, by what an ace, a king, a queen
-- and a jack count; the other ranks count nothing
abbrev pub weight_of : List ℕ → List Bool → ℕ
weight_of weights hand =
    sum_by (λ c. cond (holds_card hand c) (slice_index_or weights (rank_of c) 0) 0) pack

abbrev pub weight_in : List ℕ → List Bool → Suit → ℕ
weight_in weights hand suit =
    sum_by (λ c. cond (holds_in hand suit c) (slice_index_or weights (rank_of c) 0) 0) pack

-- the high card points of the hand, and those of one suit: an ace counts 4, a king 3, a queen 2 and
-- a jack 1
abbrev pub points_of : List Bool → ℕ
points_of = weight_of (4 ∷ 3 ∷ 2 ∷ 1 ∷ [])

abbrev pub points_in : List Bool → Suit → ℕ
points_in = weight_in (4 ∷ 3 ∷ 2 ∷ 1 ∷ [])

-- the four lengths in the order of the suits
abbrev pub shape_of : List Bool → List ℕ
shape_of hand =
    length_of hand Spades ∷ length_of hand Hearts ∷ length_of hand Diamonds
    ∷ length_of hand Clubs ∷ []

-- the number put at each place of the list
abbrev pub put_anywhere : ℕ → List ℕ → List (List ℕ)
put_anywhere x [] = (x ∷ []) ∷ []
put_anywhere x (y ∷ ys) = (x ∷ y ∷ ys) ∷ map (λ zs. y ∷ zs) (put_anywhere x ys)

-- the orders in which the numbers may come
abbrev pub orders_of : List ℕ → List (List ℕ)
orders_of [] = [] ∷ []
orders_of (x ∷ xs) = flat_map (put_anywhere x) (orders_of xs)

-- the same numbers in the same order
abbrev pub is_same : List ℕ → List ℕ → Bool
is_same [] [] = true
is_same (x ∷ xs) (y ∷ ys) = x == y && is_same xs ys
is_same _ _ = false

-- the same numbers in some order
unfoldable pub is_rearrangement : List ℕ → List ℕ → Bool
is_rearrangement xs ys = list_any (λ zs. is_same zs ys) (orders_of xs)

-- the three shapes of a balanced hand: 4-3-3-3, 4-4-3-2 and 5-3-3-2
abbrev pub flat : List ℕ
flat = 4 ∷ 3 ∷ 3 ∷ 3 ∷ []

abbrev pub two_fours : List ℕ
two_fours = 4 ∷ 4 ∷ 3 ∷ 2 ∷ []

abbrev pub one_five : List ℕ
one_five = 5 ∷ 3 ∷ 3 ∷ 2 ∷ []

-- one of them in some order
abbrev pub is_balanced : List ℕ → Bool
is_balanced shape =
    is_rearrangement shape flat
    || is_rearrangement shape two_fours
    || is_rearrangement shape one_five
