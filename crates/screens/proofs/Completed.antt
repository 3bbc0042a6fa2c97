-- A candidate completes the hands that it has.
use Rattle.std.proofs.Common.{ℕ, List, Option, refl}
use Rattle.cards.specs.declared.seat.Seat.{Seat}
use Rattle.cards.specs.declared.seat.Seat.TheVariants.{West}
use Rattle.cards.specs.Candidates.{state_before}
use Rattle.cards.specs.Fixed.{IsFixed, candidate_around}
use Rattle.cards.specs.Hands.{hand_of}
use Rattle.cards.proofs.AroundDeals.{around_is_partition}
use Rattle.cards.proofs.AroundLaws.{fixed_stay}
use Rattle.screens.specs.Completions.{IsCompletion, Keeps}

kept : (fixed : List (Option Seat)) (seed k : ℕ) → IsFixed fixed → Keeps fixed (candidate_around fixed seed k)
kept fixed seed k ok = record {
  partition = around_is_partition fixed (state_before seed k) ok;
  fixed_stay = λ card seat at. fixed_stay fixed seed k card seat ok at;
}

pub completed : (fixed : List (Option Seat)) (seed k : ℕ) → IsFixed fixed
    → IsCompletion fixed (hand_of (candidate_around fixed seed k) West) (candidate_around fixed seed k)
completed fixed seed k ok = record {
  keeps = kept fixed seed k ok;
  hand = refl;
}
