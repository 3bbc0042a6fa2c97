use Rattle.std.proofs.Common.{arith}
use Rattle.std.proofs.lemmas.List.{get_or-replicate}
use Rattle.lanes.specs.Machine.{new_machine}
use Rattle.lanes.proofs.Steps.{kept_new}
use Rattle.lanes.proofs.Runs.{sent_from_new}
use Rattle.lanes.proofs.laws.items_are_sent_in_order.Goals as goal

pub returns : goal.returns
returns c count workers capacity w events below =
    sent_from_new w events (new_machine count workers capacity) (kept_new count workers capacity (omega arith)) below
    (get_or-replicate workers w 0 0 below)
