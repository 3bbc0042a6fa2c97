use Rattle.std.proofs.Common.{refl}
use Rattle.lanes.specs.Machine.{new_machine}
use Rattle.lanes.proofs.Steps.{kept_new}
use Rattle.lanes.proofs.Runs.{taken_from_new}
use Rattle.lanes.proofs.laws.items_are_taken_in_order.Goals as goal

pub returns : goal.returns
returns c count workers capacity events some =
    taken_from_new events (new_machine count workers capacity) (kept_new count workers capacity some) refl
