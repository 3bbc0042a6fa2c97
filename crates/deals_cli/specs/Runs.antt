-- A run that was interrupted.
use Rattle.std.specs.Prelude.{ℕ, List, Option}
use Rattle.boards.specs.Layouts.{Layout}
use Rattle.cond_lang.specs.Form.{Form}
use Rattle.dealrun.specs.Interrupted.{InterruptedIn}
use Rattle.boards.specs.declared.cause.Cause.{Cause}
use Rattle.lanes.specs.Views.{OutView}
use Rattle.boards.specs.Plans.{Planned}

-- a run was interrupted for this cause: there are lanes as it left them, and the bytes are those
-- that the verdicts taken from them print
pub record InterruptsRun (layout : Layout) (plan : Planned) (form : Form) (cause : Cause)
    (old new : Option (List ℕ)) : Type 0 where
  pub lanes : List OutView
  pub boards : ℕ
  pub stands : InterruptedIn layout plan form cause lanes boards old new
