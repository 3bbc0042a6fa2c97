-- Gaps between the greatest that one value can be and the least that another can be.
use Rattle.std.specs.Prelude.{◌≡◌, ℕ, ◌+◌, ◌≤◌, Bool, cond, List, nat_lt}
use Rattle.cards.specs.Weights.{weighed}
use Rattle.screens.specs.declared.estimate.Estimate.{Estimate}
use Rattle.screens.specs.declared.gap.Gap.{Gap}
use Rattle.screens.specs.declared.gap.Shift.{Shift}
use Rattle.screens.specs.internal.Estimates.{weighed_by}

-- whether the gap is open with these hands of West and South
abbrev pub is_open : Gap → List Bool → List Bool → Bool
is_open gap west south =
    nat_lt (gap.low + (weighed_by gap.west.loss west + weighed_by gap.south.loss south))
    (gap.high + (weighed_by gap.west.gain west + weighed_by gap.south.gain south))

-- a seat's cards, for which something was taken, move two bounds towards each other by the gain
-- and away by the loss
pub record IsShift (held taken other_held other_taken : List ℕ) (shift : Shift) : Type 0 where
  pub balance : (hand : List Bool)
      → weighed_by shift.gain hand + (weighed held hand + weighed other_taken hand)
      ≡ weighed_by shift.loss hand + (weighed taken hand + weighed other_held hand)

-- the gap is open only where one value's greatest is less than the other's least, or equal to it
-- if that counts too
pub record IsGap (most least : Estimate) (or_equal : Bool) (gap : Gap) : Type 0 where
  pub low_is : gap.low ≡ most.total
  pub high_is : gap.high ≤ least.total + cond or_equal 1 0
  pub west_is : IsShift most.west most.taken least.west least.taken gap.west
  pub south_is : IsShift most.south most.taken least.south least.taken gap.south
