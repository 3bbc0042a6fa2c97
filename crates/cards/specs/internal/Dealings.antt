-- A deal around fixed cards that is under way: West's hand is dealt first, then South's.
use Rattle.std.specs.Prelude.{◌≡◌, ℕ, ◌-◌, ◌≤◌, List, Option}
use Rattle.cards.specs.declared.seat.Seat.{Seat}
use Rattle.cards.specs.declared.seat.Seat.TheVariants.{South, West}
use Rattle.cards.specs.Fixed.{dealt_around, free_count, places_for, room}
use Rattle.cards.specs.internal.Around.{AreCards, IsDealingAround}
use Rattle.cards.specs.internal.Masks.{seat_mask}

-- the deal of the draws after the state x
abbrev pub drawn_deal : List (Option Seat) → ℕ → List Seat
drawn_deal fixed x = dealt_around fixed (places_for (free_count fixed) x)

-- by the draws from the state x to the state now, all but the first n positions are settled
pub record IsOpenBelow (fixed : List (Option Seat)) (x now : ℕ) (cards : List ℕ) (n : ℕ)
    : Type 0 where
  pub are_cards : AreCards cards
  pub free : List ℕ
  pub dealing : IsDealingAround fixed free x now cards n

-- West's hand is dealt
pub record IsWestDealt
    (fixed : List (Option Seat)) (x now : ℕ) (cards : List ℕ) (west : ℕ) : Type 0 where
  pub is_open : IsOpenBelow fixed x now cards (free_count fixed - room fixed West)
  pub west_is : west ≡ seat_mask (drawn_deal fixed x) West

-- South's too
pub record IsSouthDealt
    (fixed : List (Option Seat)) (x now : ℕ) (cards : List ℕ) (west south : ℕ) : Type 0 where
  pub is_open :
      IsOpenBelow fixed x now cards (free_count fixed - room fixed West - room fixed South)
  pub west_is : west ≡ seat_mask (drawn_deal fixed x) West
  pub south_is : south ≡ seat_mask (drawn_deal fixed x) South

-- what is kept of a deal of which this many hands are dealt, with the draws after the state x
pub record IsUnderWay
    (fixed : List (Option Seat)) (x now : ℕ) (cards : List ℕ) (west south dealt : ℕ)
    : Type 0 where
  pub few : dealt ≤ 2
  pub one : dealt ≡ 1 → IsWestDealt fixed x now cards west
  pub two : dealt ≡ 2 → IsSouthDealt fixed x now cards west south
