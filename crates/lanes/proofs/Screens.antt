-- A candidate that a worker's tests give up is rejected.
use Rattle.std.proofs.Common.{◌≡◌, ◌∙◌, ℕ, Bool, true, false, IsTrue, List, refl, subst, sym}
use Rattle.std.proofs.lemmas.Bool.{false≢true}
use Rattle.std.specs.Prelude.{Option}
use Rattle.cards.specs.declared.seat.Seat.{Seat}
use Rattle.cards.specs.declared.seat.Seat.TheVariants.{West}
use Rattle.cards.specs.Fixed.{IsFixed, candidate_around}
use Rattle.cards.specs.Hands.{hand_of}
use Rattle.screens.specs.Completions.{IsCompletion}
use Rattle.screens.proofs.Completed.{completed}

-- the candidate's deal is one that it can become once West's hand is dealt
pub completes : (fixed : List (Option Seat)) (seed k : ℕ) (west : List Bool) → IsFixed fixed → west ≡ hand_of (candidate_around fixed seed k) West
    → IsCompletion fixed west (candidate_around fixed seed k)
completes fixed seed k west ok is =
    subst (λ (hand : List Bool). IsCompletion fixed hand (candidate_around fixed seed k)) (sym is) (completed fixed seed k ok)

-- a deal is returned exactly if the candidate is accepted
pub none_accepted : (holds : Bool) → holds ≡ false → (false ≡ true → IsTrue holds) × (IsTrue holds → false ≡ true)
none_accepted holds out = (λ e. absurd (false≢true e), λ is. sym out ∙ is)

pub not_accepted : (holds : Bool) → (IsTrue holds → false ≡ true) → holds ≡ false
not_accepted true none = absurd (false≢true (none refl))
not_accepted false none = refl
