-- What contracts see of the end of a lane into which a worker sends, of a closed end, and of the
-- turns.
use Rattle.std.specs.Prelude.{◌≡◌, ℕ, ◌+◌, true, false, List, [], ◌∷◌, ◌++◌, Bool}
use Rattle.lanes.specs.declared.verdict.Verdict.{Verdict}
use Rattle.lanes.specs.Views.{Ring, OutView}

-- the end that sends: what was sent, and how many slots are known to be free
pub record InView : Type 0 where
  pub sent : List Verdict
  pub room : ℕ
  pub ring : Ring

-- a closed end: all that was sent, and whether a worker closed it short, after the stop flag was
-- raised
pub record ClosedView : Type 0 where
  pub sent : List Verdict
  pub ring : Ring
  pub is_short : Bool

-- whose turn it is
pub record TurnsView : Type 0 where
  pub turn : ℕ
  pub workers : ℕ

-- on a settled lane this verdict was the next of those that were left
abbrev pub TakesOfLeft : OutView → Verdict → OutView → Type 0
TakesOfLeft before v after = before.settled ≡ true → before.left ≡ v ∷ after.left

-- the next verdict was a rejected candidate's, and it was taken
pub record TakesRejected (old new : OutView) : Type 0 where
  pub verdict : Verdict
  pub rejected : verdict.accepted ≡ false
  pub taken : new.taken ≡ old.taken ++ verdict ∷ []
  pub known : old.known ≡ new.known + 1
  pub left : TakesOfLeft old verdict new
