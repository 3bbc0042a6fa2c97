-- What contracts see of the end of a lane from which the writer takes.
use Rattle.std.specs.Prelude.{ℕ, Bool, List}
use denote.RawPtr.{Ptr}
use Rattle.rtrb.specs.Shared.{Names}
use Rattle.lanes.specs.declared.verdict.Verdict.{Verdict}

-- which ring a lane goes through
pub record Ring : Type 0 where
  pub words : Ptr
  pub slots : Ptr
  pub names : Names

-- the end that takes: what was taken, how many verdicts are known to wait, which ring it is,
-- whether it is settled, so that nothing can come any more, and what is left in it then
pub record OutView : Type 0 where
  pub taken : List Verdict
  pub known : ℕ
  pub ring : Ring
  pub settled : Bool
  pub left : List Verdict
