-- Cards that are fixed at seats before the deal, and the deal of all others around them. A list of
-- 52 tells of each card the seat that it is fixed at; None is a free card.
use Rattle.std.specs.Prelude.{◌≡◌, ℕ, ◌+◌, ◌-◌, ◌≤◌, ◌==◌, ltb, Bool, true, false, List, length, map, replicate}
use Rattle.std.specs.Prelude.{count_by, take, slice_index_or, Option, Some, None, unwrap_or, if◌then◌else◌}
use Rattle.std.specs.List.{range_with_len}
use Rattle.lcg48.specs.Sequence.{state_after}
use Rattle.cards.specs.declared.seat.Seat.{Seat}
use Rattle.cards.specs.declared.seat.Seat.TheVariants.{North, East, South, West}
use Rattle.cards.specs.Pack.{seat_number}
use Rattle.cards.specs.Shuffle.{pack, place_of}
use Rattle.cards.specs.Deals.{position_of}
use Rattle.cards.specs.Candidates.{state_before}

abbrev pub is_free : Option Seat → Bool
is_free None = true
is_free (Some holder) = false

abbrev pub is_fixed_at : Seat → Option Seat → Bool
is_fixed_at seat None = false
is_fixed_at seat (Some holder) = seat_number holder == seat_number seat

-- how many cards are fixed at the seat
abbrev pub held : List (Option Seat) → Seat → ℕ
held fixed seat = count_by (is_fixed_at seat) fixed

-- no seat has more than thirteen of the 52 cards
pub record IsFixed (fixed : List (Option Seat)) : Type 0 where
  pub count : length fixed ≡ 52
  pub room : (seat : Seat) → held fixed seat ≤ 13

-- no card is fixed
abbrev pub none_fixed : List (Option Seat)
none_fixed = replicate 52 None

-- how many cards are free
abbrev pub free_count : List (Option Seat) → ℕ
free_count fixed = count_by is_free fixed

-- the index of a free card among the free ones by rising number
abbrev pub free_index : List (Option Seat) → ℕ → ℕ
free_index fixed c = count_by is_free (take c fixed)

-- the places for a shuffle of m items by the draws after the state x, j = m with the first; what
-- is above stays
unfoldable pub places_for : ℕ → ℕ → List ℕ
places_for m x =
    map
    (λ i. if ltb (m + i) 52 then 51 - i else place_of (52 - i) (state_after x (m + i - 51)))
    (range_with_len 0 51)

-- how many free cards the seat gets
abbrev pub room : List (Option Seat) → Seat → ℕ
room fixed seat = 13 - held fixed seat

-- who gets the free card at position i: North has the first of them, then East, South and West
abbrev pub open_seat : List (Option Seat) → ℕ → Seat
open_seat fixed i =
    if ltb i (room fixed North) then North
    else if ltb i (room fixed North + room fixed East) then East
    else if ltb i (room fixed North + room fixed East + room fixed South) then South
    else West

-- the seat of a card: where it is fixed, or that of its position among the free ones
abbrev pub seat_around : List (Option Seat) → List ℕ → ℕ → Seat
seat_around fixed places c =
    unwrap_or (slice_index_or fixed c None)
    (open_seat fixed (position_of places (free_index fixed c)))

-- the deal of a list of places around the fixed cards
unfoldable pub dealt_around : List (Option Seat) → List ℕ → List Seat
dealt_around fixed places = map (seat_around fixed places) pack

-- the deal of candidate k around fixed cards: of m free cards it takes the first m - 1 of its draws
abbrev pub candidate_around : List (Option Seat) → ℕ → ℕ → List Seat
candidate_around fixed seed k =
    dealt_around fixed (places_for (free_count fixed) (state_before seed k))
