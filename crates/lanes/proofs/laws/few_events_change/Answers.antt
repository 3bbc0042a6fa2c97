use Rattle.std.proofs.Common.{arith}
use Rattle.lanes.specs.Machine.{new_machine}
use Rattle.lanes.proofs.Steps.{all_changes, kept_new}
use Rattle.lanes.proofs.laws.few_events_change.Goals as goal

pub returns : goal.returns
returns c count workers capacity events some =
    omega (arith, all_changes events (new_machine count workers capacity) (kept_new count workers capacity some))
