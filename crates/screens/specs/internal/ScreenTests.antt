-- The two tests of a screen refute its condition.
use Rattle.std.specs.Prelude.{List, Option}
use Rattle.cards.specs.declared.seat.Seat.{Seat}
use Rattle.screens.specs.declared.exclusion.Test.{Test}
use Rattle.screens.specs.declared.stage.Stage.TheVariants.{OneHand, TwoHands}
use Rattle.conditions.specs.Form.{Form}
use Rattle.conditions.specs.Meaning.{holds}
use Rattle.screens.specs.internal.Exclusions.{Refutes}

pub record AreTestsOf (form : Form) (fixed : List (Option Seat)) (one two : Test) : Type 0 where
  pub by_west : Refutes OneHand fixed (λ deal. holds form deal) one
  pub by_both : Refutes TwoHands fixed (λ deal. holds form deal) two
