-- What else is counted in a hand: losers, measures, honours, its lengths in order, and the suits
-- that it stops.
use Rattle.std.specs.Prelude.{ℕ, ◌+◌, ◌*◌, nat_le, min, not, ◌&&◌, ◌||◌, Bool, false, List, []}
use Rattle.std.specs.Prelude.{◌∷◌, count_by, option_map, slice_index_or, unwrap_or}
use Rattle.std.specs.List.{range_with_len}
use Rattle.cards.specs.declared.suit.Suit.{Suit}
use Rattle.cards.specs.declared.suit.Suit.TheVariants.{Spades, Hearts, Diamonds, Clubs}
use Rattle.cards.specs.declared.hand.Measure.{Measure}
use Rattle.cards.specs.declared.hand.Measure.TheVariants.{Losers}
use Rattle.cards.specs.declared.honours.Honours.{Honours}
use Rattle.cards.specs.declared.order.Order.{Order}
use Rattle.cards.specs.Hands.{holds_card, holds_in, length_of, weight_of, weight_in}
use Rattle.cards.specs.Measures.{weights_of}
use Rattle.cards.specs.Orders.{ordered}
use Rattle.cards.specs.Pack.{suit_number, rank_of}
use Rattle.cards.specs.Ranks.{has_rank}
use Rattle.cards.specs.Shuffle.{pack}

-- the losers in a suit: the ace, king and queen that aren't in the hand, of which the king counts
-- from two cards on, and the queen from three; a void has none
abbrev pub losers_in : List Bool → Suit → ℕ
losers_in hand suit =
    count_by (λ rank. not (holds_card hand (13 * suit_number suit + rank)))
    (range_with_len 0 (min (length_of hand suit) 3))

-- what a measure that counts more than ranks says of the cards of one suit, and of the hand
abbrev pub counted_in : Measure → List Bool → Suit → ℕ
counted_in Losers hand suit = losers_in hand suit
counted_in m hand suit = 0

abbrev pub counted_of : Measure → List Bool → ℕ
counted_of m hand =
    counted_in m hand Spades + counted_in m hand Hearts
    + counted_in m hand Diamonds + counted_in m hand Clubs

-- what a measure says of the hand, and of its cards of one suit
abbrev pub total_of : Measure → List Bool → ℕ
total_of m hand =
    unwrap_or (option_map (λ w. weight_of w hand) (weights_of m)) (counted_of m hand)

abbrev pub total_in : Measure → List Bool → Suit → ℕ
total_in m hand suit =
    unwrap_or (option_map (λ w. weight_in w hand suit) (weights_of m)) (counted_in m hand suit)

-- whether a rank is among the honours
abbrev pub has_honour : Honours → ℕ → Bool
has_honour honours rank =
    slice_index_or
    (honours.ace ∷ honours.king ∷ honours.queen ∷ honours.jack ∷ honours.ten ∷ []) rank false

-- how many cards of these ranks the hand has, and how many in one suit
abbrev pub honours_of : Honours → List Bool → ℕ
honours_of honours hand =
    count_by (λ c. has_honour honours (rank_of c) && holds_card hand c) pack

abbrev pub honours_in : Honours → List Bool → Suit → ℕ
honours_in honours hand suit =
    count_by (λ c. has_honour honours (rank_of c) && holds_in hand suit c) pack

-- the length of an order among the four
abbrev pub ordered_of : Order → List Bool → ℕ
ordered_of o hand =
    ordered o
    (length_of hand Spades) (length_of hand Hearts)
    (length_of hand Diamonds) (length_of hand Clubs)

-- whether the hand stops the suit: it has the ace, or the king and two cards or more, or the queen
-- and three or more, or the jack and four or more
abbrev pub stops_in : List Bool → Suit → Bool
stops_in hand suit =
    has_rank hand suit 0
    || ((has_rank hand suit 1 && nat_le 2 (length_of hand suit))
    || ((has_rank hand suit 2 && nat_le 3 (length_of hand suit))
    || (has_rank hand suit 3 && nat_le 4 (length_of hand suit))))
