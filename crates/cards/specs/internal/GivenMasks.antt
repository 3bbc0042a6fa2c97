-- Who has each card, by the masks of the four seats' cards.
use Rattle.std.specs.Prelude.{◌≡◌, ℕ, ◌+◌, ◌^◌, ◌<◌, ◌==◌, Bool, List, length, map, slice_index_or, Option, Some, None, if◌then◌else◌}
use Rattle.std.specs.Int.{bit_at}
use Rattle.std.specs.Int.RustNames.{count_ones}
use Rattle.std.specs.List.{list_all}
use Rattle.cards.specs.declared.seat.Seat.{Seat}
use Rattle.cards.specs.declared.seat.Seat.TheVariants.{North, East, South, West}
use Rattle.cards.specs.Deals.{all_seats}
use Rattle.cards.specs.Pack.{seat_number}
use Rattle.cards.specs.Shuffle.{pack}

abbrev pub mask_of : List ℕ → Seat → ℕ
mask_of masks seat = slice_index_or masks (seat_number seat) 0

-- the seat whose bit is set at the card
abbrev pub given_at : List ℕ → ℕ → Option Seat
given_at masks c =
    if bit_at (mask_of masks North) c == 1 then Some North
    else if bit_at (mask_of masks East) c == 1 then Some East
    else if bit_at (mask_of masks South) c == 1 then Some South
    else if bit_at (mask_of masks West) c == 1 then Some West
    else None

unfoldable pub given_of : List ℕ → List (Option Seat)
given_of masks = map (given_at masks) pack

-- the bits of the four masks at a card
abbrev pub bits_of : List ℕ → ℕ → ℕ
bits_of masks c =
    bit_at (mask_of masks North) c + bit_at (mask_of masks East) c
    + bit_at (mask_of masks South) c + bit_at (mask_of masks West) c

-- each seat has thirteen cards
abbrev pub are_thirteen : List ℕ → Bool
are_thirteen masks = list_all (λ seat. count_ones (mask_of masks seat) == 13) all_seats

-- the masks of four seats, of which no two have a card, and of all cards in them
pub record IsGiven (masks : List ℕ) (held : ℕ) : Type 0 where
  pub count : length masks ≡ 4
  pub few : held < 2 ^ 52
  pub below : (seat : Seat) → mask_of masks seat < 2 ^ 52
  pub all : (c : ℕ) → bits_of masks c ≡ bit_at held c
