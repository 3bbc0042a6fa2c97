-- What `Candidates` goes through: every step-th candidate of a seed, dealt around fixed cards.
use Rattle.std.specs.Prelude.{◌≡◌, ℕ, ◌+◌, ◌*◌, ◌≤◌, Bool, List, Option}
use Rattle.cards.specs.declared.seat.Seat.{Seat}
use Rattle.cards.specs.Candidates.{state_before}
use Rattle.cards.specs.Fixed.{candidate_around}
use Rattle.cards.specs.Hands.{hand_of}

-- what contracts see of `Candidates`: the state, how many draws it is from one candidate to the
-- next, the fixed cards, and how many hands of the next candidate are dealt: West's is the first,
-- South's the second
pub record CandidatesView : Type 0 where
  pub state : ℕ
  pub stride : ℕ
  pub fixed : List (Option Seat)
  pub dealt : ℕ

-- the next deal is that of candidate k around the fixed cards, then come those of k + step,
-- k + 2 * step, ..
pub record GoesOnAt (candidates : CandidatesView) (around : List (Option Seat)) (seed k step : ℕ)
    : Type 0 where
  pub before : candidates.state ≡ state_before seed k
  pub some : 1 ≤ step
  pub stride_is : candidates.stride ≡ 51 * step
  pub fixed_are : candidates.fixed ≡ around

-- the seed whose candidates are dealt, and the cards that are fixed
pub record Source : Type 0 where
  pub seed : ℕ
  pub fixed : List (Option Seat)

-- wherever the old one goes on, the new one goes on with the candidate after it
abbrev pub Moves : CandidatesView → CandidatesView → Type 0
Moves old new = (fixed : List (Option Seat)) (seed number step : ℕ)
    → GoesOnAt old fixed seed number step → GoesOnAt new fixed seed (number + step) step

-- wherever the old one goes on, the new one goes on with the same candidate
abbrev pub Stays : CandidatesView → CandidatesView → Type 0
Stays old new = (fixed : List (Option Seat)) (seed number step : ℕ)
    → GoesOnAt old fixed seed number step → GoesOnAt new fixed seed number step

-- the deal is that of the candidate at which it goes on
abbrev pub GivesDeal : CandidatesView → List Seat → Type 0
GivesDeal old deal = (fixed : List (Option Seat)) (seed number step : ℕ)
    → GoesOnAt old fixed seed number step → deal ≡ candidate_around fixed seed number

-- the hand is the seat's of that deal
abbrev pub GivesHand : CandidatesView → Seat → List Bool → Type 0
GivesHand old seat hand = (fixed : List (Option Seat)) (seed number step : ℕ)
    → GoesOnAt old fixed seed number step → hand ≡ hand_of (candidate_around fixed seed number) seat
