-- The deals around fixed cards, and those that a candidate can still become once West's hand is
-- known.
use Rattle.std.specs.Prelude.{◌≡◌, ℕ, Bool, List, Option, Some, slice_get}
use Rattle.cards.specs.declared.seat.Seat.{Seat}
use Rattle.cards.specs.declared.seat.Seat.TheVariants.{West}
use Rattle.cards.specs.Deals.{IsPartition}
use Rattle.cards.specs.Hands.{hand_of}
use Rattle.conditions.specs.Form.{Form}

-- each seat has thirteen cards, and each fixed card is at its seat
pub record Keeps (fixed : List (Option Seat)) (deal : List Seat) : Type 0 where
  pub partition : IsPartition deal
  pub fixed_stay : (card : ℕ) (seat : Seat)
      → slice_get fixed card ≡ Some (Some seat)
      → slice_get deal card ≡ Some seat

-- such a deal, in which this is West's hand
pub record IsCompletion (fixed : List (Option Seat)) (west : List Bool) (deal : List Seat)
    : Type 0 where
  pub keeps : Keeps fixed deal
  pub hand : hand_of deal West ≡ west

-- what contracts see of a `Screen`: the condition, and the cards that are fixed
pub record ScreenView : Type 0 where
  pub form : Form
  pub fixed : List (Option Seat)
