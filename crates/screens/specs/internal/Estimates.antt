-- Estimates of values: what a value of a deal in part is at the least, or at the greatest.
use Rattle.std.specs.Prelude.{◌≡◌, ℕ, ◌+◌, ◌-◌, ◌≤◌, Bool, cond, List, Option, Some, None, slice_index_or}
use Rattle.std.specs.List.{sum_by}
use Rattle.cards.specs.declared.seat.Seat.{Seat}
use Rattle.cards.specs.declared.seat.Seat.TheVariants.{South}
use Rattle.cards.specs.Hands.{hand_of, holds_card}
use Rattle.cards.specs.Shuffle.{pack}
use Rattle.cards.specs.Weights.{weighed}
use Rattle.screens.specs.declared.estimate.Estimate.{Estimate}
use Rattle.screens.specs.declared.stage.Bound.{Bound}
use Rattle.screens.specs.declared.stage.Bound.TheVariants.{Least, Greatest}
use Rattle.screens.specs.declared.stage.Stage.{Stage}
use Rattle.screens.specs.declared.stage.Stage.TheVariants.{TwoHands}
use Rattle.screens.specs.Completions.{IsCompletion}
use Rattle.conditions.specs.Form.{Amount}
use Rattle.conditions.specs.Meaning.{value_in}

-- the deal can still come of a candidate with this hand of West and, where two hands are known,
-- this hand of South
pub record IsPossible (stage : Stage) (fixed : List (Option Seat)) (west south : List Bool)
    (deal : List Seat) : Type 0 where
  pub completion : IsCompletion fixed west deal
  pub south_is : stage ≡ TwoHands → hand_of deal South ≡ south

-- what the hand weighs, or 0 if nothing weighs anything
abbrev pub weighed_by : Option (List ℕ) → List Bool → ℕ
weighed_by None hand = 0
weighed_by (Some weights) hand = weighed weights hand

-- by how much the numbers of a hand's cards in one list are above those in another, together
abbrev pub surplus_of : List ℕ → List ℕ → List Bool → ℕ
surplus_of left right hand =
    sum_by
    (λ c. cond (holds_card hand c) (slice_index_or left c 0 - slice_index_or right c 0) 0) pack

-- what is taken for the cards of the two hands, and what they count there
abbrev pub taken_of : Estimate → List Bool → List Bool → ℕ
taken_of e west south = weighed e.taken west + weighed e.taken south

abbrev pub held_of : Estimate → List Bool → List Bool → ℕ
held_of e west south = weighed e.west west + weighed e.south south

-- the estimate with these hands is a bound of the value: its total less what was taken for the
-- hands' cards, and with what they count
abbrev pub IsBeyond : Bound → Estimate → List Bool → List Bool → ℕ → Type 0
IsBeyond Least e west south value =
    e.total + held_of e west south ≤ value + taken_of e west south
IsBeyond Greatest e west south value =
    value + taken_of e west south ≤ e.total + held_of e west south

-- the estimate bounds the value of each deal that is still possible
pub record IsEstimate
    (bound : Bound) (stage : Stage) (fixed : List (Option Seat)) (a : Amount) (e : Estimate)
    : Type 0 where
  pub of_each : (west south : List Bool) (deal : List Seat)
      → IsPossible stage fixed west south deal
      → IsBeyond bound e west south (value_in deal a)
