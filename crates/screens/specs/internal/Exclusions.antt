-- Tests that give a candidate up: when one excludes, and what it promises then.
use Rattle.std.specs.Prelude.{◌≡◌, ℕ, ◌+◌, ◌&&◌, ◌||◌, nat_le, nat_lt, not, Bool, true, false, cond, IsTrue, List, Option}
use Rattle.cards.specs.declared.seat.Seat.{Seat}
use Rattle.cards.specs.Weights.{weighed}
use Rattle.screens.specs.declared.exclusion.Test.{Test}
use Rattle.screens.specs.declared.exclusion.Test.TheVariants.{Never, WestAbove, WestBelow, SouthAbove}
use Rattle.screens.specs.declared.exclusion.Test.TheVariants.{SouthBelow, BothAbove, Opens, Either', Both'}
use Rattle.screens.specs.declared.stage.Stage.{Stage}
use Rattle.screens.specs.internal.Estimates.{IsPossible}
use Rattle.screens.specs.internal.Gaps.{is_open}

abbrev pub is_below : Bool → ℕ → ℕ → Bool
is_below or_equal m n = cond or_equal (nat_le m n) (nat_lt m n)

-- whether the test excludes a candidate with these hands of West and South
abbrev pub excludes : Test → List Bool → List Bool → Bool
excludes Never west south = false
excludes (WestAbove weights most) west south = nat_lt most (weighed weights west)
excludes (WestBelow weights least) west south = nat_lt (weighed weights west) least
excludes (SouthAbove weights most) west south = nat_lt most (weighed weights south)
excludes (SouthBelow weights least) west south = nat_lt (weighed weights south) least
excludes (BothAbove of_west of_south most) west south =
    nat_lt most (weighed of_west west + weighed of_south south)
excludes (Opens gap) west south = is_open gap.value west south
excludes (Either' p a q b) west south = excludes a west south || excludes b west south
excludes (Both' p a q b) west south = excludes a west south && excludes b west south

-- what the test excludes can become no deal of which this is true
pub record Refutes
    (stage : Stage) (fixed : List (Option Seat)) (is_accepted : List Seat → Bool) (test : Test)
    : Type 0 where
  pub refuted : (west south : List Bool) (deal : List Seat)
      → IsTrue (excludes test west south)
      → IsPossible stage fixed west south deal
      → is_accepted deal ≡ false

-- whether the truth of something is the wanted one
abbrev pub has_truth : Bool → Bool → Bool
has_truth true b = b
has_truth false b = not b
