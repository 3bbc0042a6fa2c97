-- What contracts see of a candidate in three words: a deal that carries a flag, or what an undealt
-- candidate is dealt from.
use Rattle.std.specs.Prelude.{ℕ, ◌^◌, ◌<◌, List, Bool, false}
use Rattle.cards.specs.declared.seat.Seat.{Seat}
use Rattle.cards.specs.CandidateWalks.{Source}
use Rattle.cards.specs.Fixed.{candidate_around}

-- who has each card, and the flag; or the seed and the fixed cards
pub data PackedView : Type 0 where
  whole : List Seat → Bool → PackedView
  undealt : Source → PackedView

-- the flag of an undealt candidate is not set
abbrev pub flag_in : PackedView → Bool
flag_in (whole deal flag) = flag
flag_in (undealt source) = false

-- the deal of the candidate of this number
abbrev pub deal_in : PackedView → ℕ → List Seat
deal_in (whole deal flag) number = deal
deal_in (undealt source) number = candidate_around source.fixed source.seed number

-- there is a candidate of this number, if it is not dealt yet
abbrev pub HasNumber : PackedView → ℕ → Type 0
HasNumber (whole deal flag) number = Unit {0}
HasNumber (undealt source) number = number < 2 ^ 40
