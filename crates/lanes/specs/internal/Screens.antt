-- The condition and the fixed cards that a worker's tests are of, and how it deals a candidate.
use Rattle.std.specs.Prelude.{◌≡◌, ◌+◌, ◌↔◌, ℕ, List, Option, IfSome, IsSome, IsTrue}
use Rattle.cards.specs.declared.seat.Seat.{Seat}
use Rattle.cards.specs.CandidateWalks.{CandidatesView, GoesOnAt}
use Rattle.cards.specs.Fixed.{IsFixed, candidate_around}
use Rattle.conditions.specs.Form.{Form}
use Rattle.conditions.specs.Meaning.{holds}
use Rattle.lanes.specs.declared.screening.Screening.{Screening}

-- they are of this condition and these cards; without memory for them there are none
pub record IsScreenOf (screening : Screening) (form : Form) (fixed : List (Option Seat)) : Type 0
  where
    pub sound : IsFixed fixed
    pub screen : IfSome screening.screen (λ s. (s.form ≡ form) × (s.fixed ≡ fixed))

-- the tests stay those of their condition and cards
abbrev pub KeepsScreen : Screening → Screening → Type 0
KeepsScreen old new = (form : Form) (fixed : List (Option Seat))
    → IsScreenOf old form fixed → IsScreenOf new form fixed

-- a deal comes if and only if the next candidate is accepted, and it is the candidate's; then it
-- goes on to the one after it
pub record DealsNext (form : Form) (fixed : List (Option Seat)) (old new : CandidatesView)
    (result : Option (List Seat)) : Type 0 where
  pub moved : (seed number step : ℕ) → GoesOnAt old fixed seed number step
      → GoesOnAt new fixed seed (number + step) step
  pub deal : (seed number step : ℕ) → GoesOnAt old fixed seed number step
      → IfSome result (λ deal. deal ≡ candidate_around fixed seed number)
  pub accepted : (seed number step : ℕ) → GoesOnAt old fixed seed number step
      → (IsSome result ↔ IsTrue (holds form (candidate_around fixed seed number)))
