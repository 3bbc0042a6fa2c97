-- The deal that a Deal tag tells: a seat, `:`, and the hands of that seat and the others clockwise,
-- with a space between them; a hand has its spades, hearts, diamonds and clubs with dots between
-- them, each the letters of its cards' ranks.
use Rattle.std.specs.Prelude.{ℕ, ◌+◌, ◌*◌, ◌/◌, ◌%◌, ◌==◌, ◌&&◌, Bool, nat_lt, is_some, unwrap_or}
use Rattle.std.specs.Prelude.{List, [], ◌∷◌, map, replicate, slice_index_or, slice_set}
use Rattle.std.specs.Prelude.{Option, None, Some, if◌then◌else◌}
use Rattle.std.specs.List.{list_all, position_or_len}
use Rattle.boards.specs.Letters.{letters}
use Rattle.cards.specs.declared.seat.Seat.{Seat}
use Rattle.cards.specs.declared.seat.Seat.TheVariants.{North}
use Rattle.cards.specs.Deals.{all_seats, cards_of}
use Rattle.cards.specs.Pack.{seat_number, seat_of_number}
use Rattle.input.specs.Values.{dealer_in}

-- part p, from 0 to 15, has the cards of suit p mod 4 in hand p / 4. What is after it
abbrev pub separator : ℕ → ℕ
separator p = if p % 4 == 3 then 32 else 46

-- whose hand it is
abbrev pub seat_in : Seat → ℕ → Seat
seat_in first p = seat_of_number ((seat_number first + p / 4) % 4)

-- the rank of a letter; 13 where there is none
unfoldable pub rank_in : ℕ → ℕ
rank_in byte = position_or_len (λ letter. letter == byte) letters

-- the card of rank r in part p
abbrev pub card_in : ℕ → ℕ → ℕ
card_in p r = 13 * (p % 4) + r

-- a card is given once
abbrev pub given : List (Option Seat) → ℕ → Seat → Option (List (Option Seat))
given seats c seat =
    if is_some (slice_index_or seats c None) then None else Some (slice_set seats c (Some seat))

abbrev pub if_given : Option (List (Option Seat))
    → (List (Option Seat) → Option (List (Option Seat))) → Option (List (Option Seat))
if_given None later = None
if_given (Some seats) later = later seats

-- what the text from within part p gives, after what was given before
abbrev pub gives : Seat → ℕ → List (Option Seat) → List ℕ → Option (List (Option Seat))
gives first p seats [] = if p == 15 then Some seats else None
gives first p seats (b ∷ bs) =
    if nat_lt p 15 && b == separator p then gives first (p + 1) seats bs
    else (if nat_lt (rank_in b) 13
    then if_given (given seats (card_in p (rank_in b)) (seat_in first p))
    (λ more. gives first p more bs)
    else None)

abbrev pub none_given : List (Option Seat)
none_given = replicate 52 None

-- the deal, if every card is given and every seat has thirteen
abbrev pub is_partition : List Seat → Bool
is_partition deal = list_all (λ seat. cards_of deal seat == 13) all_seats

abbrev pub seats_of : List (Option Seat) → List Seat
seats_of seats = map (λ seat. unwrap_or seat North) seats

abbrev pub whole : Option (List (Option Seat)) → Option (List Seat)
whole None = None
whole (Some seats) =
    if list_all is_some seats && is_partition (seats_of seats) then Some (seats_of seats) else None

abbrev pub hands_tell : Option Seat → List ℕ → Option (List Seat)
hands_tell None hands = None
hands_tell (Some first) hands = whole (gives first 0 none_given hands)

unfoldable pub deal_in : List ℕ → Option (List Seat)
deal_in [] = None
deal_in (b ∷ []) = None
deal_in (b ∷ c ∷ hands) = if c == 58 then hands_tell (dealer_in (b ∷ [])) hands else None
