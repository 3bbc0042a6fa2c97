-- A set of cards as a number: bit c is set if card c is in the set. Four of them are a deal.
use Rattle.std.specs.Prelude.{◌≡◌, ℕ, ◌-◌, ◌^◌, ◌==◌, Bool, List, map, if◌then◌else◌}
use Rattle.std.proofs.Common.{sym}
use Rattle.std.specs.Int.{bit_at}
use Rattle.std.specs.Int.RustNames.{bit_and, bit_or, count_ones}
use lib.Lanes.{mask_l}
use Rattle.cards.specs.declared.seat.Seat.{Seat}
use Rattle.cards.specs.declared.seat.Seat.TheVariants.{North, East, South, West}
use Rattle.cards.specs.declared.suit.Suit.{Suit}
use Rattle.cards.specs.declared.suit.Suit.TheVariants.{Spades, Hearts, Diamonds, Clubs}
use Rattle.cards.specs.Shuffle.{pack}
use Rattle.cards.specs.Deals.{IsPartition}
use Rattle.cards.specs.declared.honours.Honours.{Honours}
use Rattle.cards.specs.Pack.{rank_of}
use Rattle.cards.specs.Hands.{hand_of}
use Rattle.cards.specs.Counts.{has_honour}

-- the cards whose bits are set
unfoldable pub cards_of_mask : ℕ → List Bool
cards_of_mask mask = map (λ c. bit_at mask c == 1) pack

-- the thirteen cards of a suit
abbrev pub mask_of_suit : Suit → ℕ
mask_of_suit Spades = 0x1FFF
mask_of_suit Hearts = 0x3FFE000
mask_of_suit Diamonds = 0x7FFC000000
mask_of_suit Clubs = 0xFFF8000000000

-- the cards of the four suits whose ranks are among the honours
abbrev pub mask_of_honours : Honours → ℕ
mask_of_honours honours = mask_l (map (λ c. has_honour honours (rank_of c)) pack)

-- the mask of a seat's cards
abbrev pub seat_mask : List Seat → Seat → ℕ
seat_mask deal seat = mask_l (hand_of deal seat)

-- the seat whose bit is set at the card
abbrev pub seat_in : ℕ → ℕ → ℕ → ℕ → Seat
seat_in n e s c =
    if bit_at n c == 1 then North
    else if bit_at e c == 1 then East
    else if bit_at s c == 1 then South
    else West

-- the deal that the masks of North, East and South show
unfoldable pub seats_of_masks : ℕ → ℕ → ℕ → List Seat
seats_of_masks n e s = map (seat_in n e s) pack

-- no bit is set twice, together they are all 52, and each has thirteen
pub record IsFull (n e s w : ℕ) : Type 0 where
  pub apart :
      (bit_and n e ≡ 0) × (bit_and n s ≡ 0) × (bit_and n w ≡ 0)
      × (bit_and e s ≡ 0) × (bit_and e w ≡ 0)
      × (bit_and s w ≡ 0)
  pub together : bit_or (bit_or n e) (bit_or s w) ≡ 2 ^ 52 - 1
  pub thirteen :
      (count_ones n ≡ 13) × (count_ones e ≡ 13)
      × (count_ones s ≡ 13) × (count_ones w ≡ 13)

-- the four masks are those of a deal's four hands of thirteen
pub record IsMasks (n e s w : ℕ) : Type 0 where
  pub full : IsFull n e s w
  pub partition : IsPartition (seats_of_masks n e s)
  pub north : n ≡ seat_mask (seats_of_masks n e s) North
  pub east : e ≡ seat_mask (seats_of_masks n e s) East
  pub south : s ≡ seat_mask (seats_of_masks n e s) South
  pub west : w ≡ seat_mask (seats_of_masks n e s) West

-- the masks of what four masks show are these masks
pub masks_back : (n e s w : ℕ) → IsMasks n e s w
    → (seat_mask (seats_of_masks n e s) North ≡ n)
    × (seat_mask (seats_of_masks n e s) East ≡ e)
    × (seat_mask (seats_of_masks n e s) South ≡ s)
    × (seat_mask (seats_of_masks n e s) West ≡ w)
masks_back n e s w ok = (sym ok.north, sym ok.east, sym ok.south, sym ok.west)
