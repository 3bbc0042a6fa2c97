-- What holds between two exchanges of the free cards, and of the masks of the fixed ones.
use Rattle.std.specs.Prelude.{◌≡◌, ℕ, ◌+◌, ◌-◌, ◌<◌, ◌≤◌, ◌&&◌, ◌==◌, ltb, nat_le, Bool, true, List, length, map}
use Rattle.std.specs.Prelude.{slice_index_or, slice_index, Option, None, if◌then◌else◌}
use lib.Lanes.{mask_l}
use Rattle.lcg48.specs.Sequence.{state_after}
use Rattle.cards.specs.declared.seat.Seat.{Seat}
use Rattle.cards.specs.declared.seat.Seat.TheVariants.{North, East, South, West}
use Rattle.cards.specs.declared.around.Side.{Side}
use Rattle.cards.specs.Shuffle.{traced, card_at, pack}
use Rattle.cards.specs.Deals.{position_of}
use Rattle.cards.specs.Fixed.{IsFixed, is_free, is_fixed_at, free_count, free_index, places_for, room}

abbrev pub fixed_at : List (Option Seat) → ℕ → Option Seat
fixed_at fixed c = slice_index_or fixed c None

-- the mask of the cards that are fixed at the seat
abbrev pub fixed_mask : List (Option Seat) → Seat → ℕ
fixed_mask fixed seat = mask_l (map (is_fixed_at seat) fixed)

-- the first n free cards by rising number
pub record IsListed (fixed : List (Option Seat)) (free : List ℕ) (n : ℕ) : Type 0 where
  pub below : (i : ℕ) → i < 52 → slice_index free i < 52
  pub frees : (i : ℕ) → i < n → is_free (fixed_at fixed (slice_index free i)) ≡ true
  pub index : (i : ℕ) → i < n → free_index fixed (slice_index free i) ≡ i

-- 52 numbers of cards
abbrev pub AreCards : List ℕ → Type 0
AreCards cards = (i : ℕ) → i < 52 → slice_index cards i < 52

-- the free cards while n positions are open: traced back through the exchanges to come, position i
-- leads to where its card is now
pub record IsDealingAround
    (fixed : List (Option Seat)) (free : List ℕ)
    (x state : ℕ) (cards : List ℕ) (n : ℕ) : Type 0 where
  pub long : length fixed ≡ 52
  pub few : free_count fixed ≤ 52
  pub listed : IsListed fixed free (free_count fixed)
  pub drawn : state ≡ state_after x (free_count fixed - n)
  pub card :
      (i : ℕ) → i < free_count fixed
      → slice_index cards (traced (places_for (free_count fixed) x) i (n - 1))
      ≡ slice_index free (card_at (places_for (free_count fixed) x) i)

-- whether the card is free and its position is from low on and below high
abbrev pub settles_within : List (Option Seat) → List ℕ → ℕ → ℕ → ℕ → Bool
settles_within fixed places low high c =
    is_free (fixed_at fixed c)
    && (nat_le low (position_of places (free_index fixed c))
    && ltb (position_of places (free_index fixed c)) high)

-- between two states the positions from low on and below high are settled, by their cards' mask
pub record IsSettled (old new : ℕ) (cards next : List ℕ) (set low high : ℕ) : Type 0 where
  pub dealing :
      (fixed : List (Option Seat)) (free : List ℕ) (x : ℕ)
      → high ≤ free_count fixed
      → IsDealingAround fixed free x old cards high
      → IsDealingAround fixed free x new next low
  pub mask :
      (fixed : List (Option Seat)) (free : List ℕ) (x : ℕ)
      → high ≤ free_count fixed
      → IsDealingAround fixed free x old cards high
      → set
      ≡ mask_l (map (settles_within fixed (places_for (free_count fixed) x) low high) pack)

-- how many positions are not drawn for: the first seat that gets free cards, North or else East,
-- has what the others leave
abbrev pub rest_count : List (Option Seat) → ℕ
rest_count fixed = if room fixed North == 0 then room fixed East else room fixed North

-- how many draws a deal around fixed cards takes
abbrev pub draws_around : List (Option Seat) → ℕ
draws_around fixed = free_count fixed - rest_count fixed

-- what is kept of one seat's fixed cards
pub record IsSide (fixed : List (Option Seat)) (seat : Seat) (side : Side) : Type 0 where
  pub mask : side.mask ≡ fixed_mask fixed seat
  pub room : side.room ≡ room fixed seat

-- what is kept of fixed cards
pub record IsKept
    (fixed : List (Option Seat)) (n e s w : Side) (free : List ℕ) (count : ℕ) : Type 0 where
  pub fits : IsFixed fixed
  pub north : IsSide fixed North n
  pub east : IsSide fixed East e
  pub south : IsSide fixed South s
  pub west : IsSide fixed West w
  pub all : count ≡ free_count fixed
  pub rooms : count ≡ n.room + e.room + s.room + w.room
  pub listed : IsListed fixed free count
