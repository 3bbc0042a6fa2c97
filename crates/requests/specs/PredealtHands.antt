-- The texts of hands, and the cards that they fix at the seats before the deal.
use Rattle.std.specs.Prelude.{◌≡◌, ◌<◌, ◌↔◌, ℕ, ◌/◌, ◌==◌, ◌&&◌, ◌||◌, Bool, false, true}
use Rattle.std.specs.Prelude.{is_some, nat_le, nat_lt, not}
use Rattle.std.specs.Prelude.{List, [], map, count_by, slice_index, slice_index_or, codes}
use Rattle.std.specs.Prelude.{Option, Some, None, option_map}
use Rattle.std.specs.Borrow.{Bor}
use Rattle.std.specs.List.{find, list_all, list_any, slice_split}
use Rattle.requests.specs.declared.hands.PredealtHands.{PredealtHands}
use Rattle.cards.specs.declared.seat.Seat.{Seat}
use Rattle.cards.specs.declared.seat.Seat.TheVariants.{North, East, South, West}
use Rattle.cards.specs.Deals.{all_seats}
use Rattle.cards.specs.Pack.{rank_of}
use Rattle.cards.specs.Shuffle.{pack}

-- the letters of the ranks, the ace first
abbrev pub rank_letters : List ℕ
rank_letters = codes "AKQJT98765432"

abbrev pub letter_of : ℕ → ℕ
letter_of c = slice_index rank_letters (rank_of c)

abbrev pub is_rank_letter : ℕ → Bool
is_rank_letter byte = list_any (λ letter. letter == byte) rank_letters

abbrev pub is_dot : ℕ → Bool
is_dot byte = byte == 0x2E

-- what is between the dots: the spades, hearts, diamonds and clubs
abbrev pub suits_of : List ℕ → List (List ℕ)
suits_of text = slice_split is_dot text

-- how often a text has a card: the letter of its rank, in the part of its suit
unfoldable pub times_in : List ℕ → ℕ → ℕ
times_in text c =
    count_by (λ byte. byte == letter_of c) (slice_index_or (suits_of text) (c / 13) [])

abbrev pub has_card : List ℕ → ℕ → Bool
has_card text c = nat_lt 0 (times_in text c)

abbrev pub has_three_dots : List ℕ → Bool
has_three_dots text = count_by is_dot text == 3

abbrev pub is_hand_byte : ℕ → Bool
is_hand_byte byte = is_dot byte || is_rank_letter byte

-- beside dots there are letters of ranks alone
abbrev pub has_letters_alone : List ℕ → Bool
has_letters_alone text = list_all is_hand_byte text

-- no card occurs twice
abbrev pub has_none_twice : List ℕ → Bool
has_none_twice text = list_all (λ c. nat_le (times_in text c) 1) pack

-- there are thirteen cards at most
abbrev pub has_room : List ℕ → Bool
has_room text = nat_le (count_by (has_card text) pack) 13

-- a text is a hand
unfoldable pub is_hand : List ℕ → Bool
is_hand text =
    has_three_dots text && has_letters_alone text && has_none_twice text && has_room text

-- the texts given, by seat
pub record GivenHands : Type 0 where
  pub north : Option (List ℕ)
  pub east : Option (List ℕ)
  pub south : Option (List ℕ)
  pub west : Option (List ℕ)

abbrev pub none_given : GivenHands
none_given = record { north = None; east = None; south = None; west = None }

abbrev pub bytes_of : Option (Bor (List ℕ)) → Option (List ℕ)
bytes_of text = option_map (λ s. s.now) text

abbrev pub given_by : PredealtHands → GivenHands
given_by texts = record {
  north = bytes_of texts.north;
  east = bytes_of texts.east;
  south = bytes_of texts.south;
  west = bytes_of texts.west;
}

-- the text of a seat
abbrev pub given_at : GivenHands → Seat → Option (List ℕ)
given_at hands North = hands.north
given_at hands East = hands.east
given_at hands South = hands.south
given_at hands West = hands.west

-- the texts of the seats before this one
abbrev pub before : Seat → GivenHands → GivenHands
before North hands = none_given
before East hands = record none_given { north = hands.north }
before South hands = record none_given { north = hands.north; east = hands.east }
before West hands = record hands { west = None }

-- whether a text is given that has the card
abbrev pub has_given : Option (List ℕ) → ℕ → Bool
has_given None c = false
has_given (Some text) c = has_card text c

-- the first seat whose text has the card
abbrev pub seat_given : GivenHands → ℕ → Option Seat
seat_given hands c = find (λ seat. has_given (given_at hands seat) c) all_seats

-- whether a text has a card of an earlier one
unfoldable pub shares : GivenHands → List ℕ → Bool
shares earlier text = list_any (λ c. has_card text c && is_some (seat_given earlier c)) pack

-- a text is refused that is malformed or has a card of an earlier one
abbrev pub is_refused : GivenHands → Option (List ℕ) → Bool
is_refused earlier None = false
is_refused earlier (Some text) = not (is_hand text) || shares earlier text

abbrev pub is_refused_at : GivenHands → Seat → Bool
is_refused_at hands seat = is_refused (before seat hands) (given_at hands seat)

-- the first seat, in the order north, east, south, west, whose text is refused
unfoldable pub first_refused : GivenHands → Option Seat
first_refused hands = find (is_refused_at hands) all_seats

-- the cards that the texts fix
unfoldable pub fixed_of : GivenHands → List (Option Seat)
fixed_of hands = map (seat_given hands) pack

-- each text given is a hand
abbrev pub AreHands : GivenHands → Type 0
AreHands hands =
    (seat : Seat) (text : List ℕ) → given_at hands seat ≡ Some text → is_hand text ≡ true

-- each card is fixed at a seat if and only if the seat's text has it, so no two texts have it
abbrev pub IsFixedBy : GivenHands → List (Option Seat) → Type 0
IsFixedBy hands fixed =
    (seat : Seat) (c : ℕ) → c < 52
    → (slice_index_or fixed c None ≡ Some seat) ↔ (has_given (given_at hands seat) c ≡ true)
