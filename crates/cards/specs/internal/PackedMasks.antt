-- What the three words of a packed candidate are. Three masks are enough for a deal, since West
-- has the rest, and for fixed cards, since West's are in two of them. Above the first mask is 0
-- or 1 for a deal without the flag and with it, and 2 or more for an undealt candidate, whose seed
-- is above all three.
use Rattle.std.specs.Prelude.{◌≡◌, ℕ, ◌+◌, ◌-◌, ◌*◌, ◌/◌, ◌%◌, ◌^◌, ◌<◌, ◌≤◌, ◌==◌, ltb, Bool, true, false, cond}
use Rattle.std.specs.Prelude.{List, map, Option, Some, None, if◌then◌else◌}
use Rattle.std.specs.Int.{bit_at}
use Rattle.std.specs.Int.RustNames.{bit_or}
use Rattle.cards.specs.declared.seat.Seat.{Seat}
use Rattle.cards.specs.declared.seat.Seat.TheVariants.{North, East, South, West}
use Rattle.cards.specs.Shuffle.{pack}
use Rattle.cards.specs.Fixed.{IsFixed}
use Rattle.cards.specs.Packed.{PackedView, whole, undealt}
use Rattle.cards.specs.internal.Around.{fixed_mask}
use Rattle.cards.specs.internal.Masks.{IsMasks, seat_mask, seats_of_masks}

-- the cards that three masks leave
abbrev pub rest_of : ℕ → ℕ → ℕ → ℕ
rest_of n e s = 2 ^ 52 - 1 - (n + e + s)

-- the mask of a word, and what is above it
abbrev pub cards_in : ℕ → ℕ
cards_in word = word % 2 ^ 52

abbrev pub above_in : ℕ → ℕ
above_in word = word / 2 ^ 52

abbrev pub joined : ℕ → ℕ → ℕ
joined cards above = cards + above * 2 ^ 52

-- where a card is fixed, by its bits in the three masks
abbrev pub told : Bool → Bool → Bool → Option Seat
told true true third = Some West
told true false third = Some North
told false true third = Some East
told false false true = Some South
told false false false = None

abbrev pub told_at : ℕ → ℕ → ℕ → ℕ → Option Seat
told_at a b c i = told (bit_at a i == 1) (bit_at b i == 1) (bit_at c i == 1)

-- the fixed cards that three masks tell
unfoldable pub fixed_told : ℕ → ℕ → ℕ → List (Option Seat)
fixed_told a b c = map (told_at a b c) pack

-- the seed by what is above the three masks
abbrev pub seed_told : ℕ → ℕ → ℕ → ℕ
seed_told a b c = (a - 2) * 2 ^ 24 + c * 2 ^ 12 + b

-- what three words show
unfoldable pub shown : ℕ → ℕ → ℕ → PackedView
shown a b c =
    if ltb (above_in a) 2 then whole (seats_of_masks (cards_in a) b c) (above_in a == 1)
    else undealt (record {
      seed = seed_told (above_in a) (above_in b) (above_in c);
      fixed = fixed_told (cards_in a) (cards_in b) (cards_in c);
    })

-- the words that show this
unfoldable pub first_of : PackedView → ℕ
first_of (whole deal flag) = joined (seat_mask deal North) (cond flag 1 0)
first_of (undealt source) =
    joined (bit_or (fixed_mask source.fixed North) (fixed_mask source.fixed West))
    (2 + source.seed / 2 ^ 24)

unfoldable pub second_of : PackedView → ℕ
second_of (whole deal flag) = seat_mask deal East
second_of (undealt source) =
    joined (bit_or (fixed_mask source.fixed East) (fixed_mask source.fixed West))
    (source.seed % 2 ^ 12)

unfoldable pub third_of : PackedView → ℕ
third_of (whole deal flag) = seat_mask deal South
third_of (undealt source) =
    joined (fixed_mask source.fixed South) (source.seed / 2 ^ 12 % 2 ^ 12)

-- the words are those of what they show: of a deal, or of a seed and fixed cards
pub record IsPacked (a b c : ℕ) : Type 0 where
  pub first_is : first_of (shown a b c) ≡ a
  pub second_is : second_of (shown a b c) ≡ b
  pub third_is : third_of (shown a b c) ≡ c
  pub masks : above_in a < 2 → IsMasks (cards_in a) b c (rest_of (cards_in a) b c)
  pub seed : 2 ≤ above_in a → seed_told (above_in a) (above_in b) (above_in c) < 2 ^ 32
  pub fixed : 2 ≤ above_in a → IsFixed (fixed_told (cards_in a) (cards_in b) (cards_in c))
