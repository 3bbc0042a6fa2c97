use Rattle.lanes.specs.declared.model.event.Event.TheVariants.{Close}
use Rattle.lanes.specs.Machine.{new_machine, after}
use Rattle.lanes.specs.Runs.{after_all}
use Rattle.lanes.proofs.Steps.{kept_new}
use Rattle.lanes.proofs.Runs.{kept_all, closed_all, closed_by, closed_refuses}
use Rattle.lanes.proofs.laws.a_closed_lane_sends_nothing.Goals as goal

pub returns : goal.returns
returns c count workers capacity w before later some allowed =
    let new = new_machine count workers capacity in
    let m = after_all new before in
    let kept = kept_all before new (kept_new count workers capacity some) in
    closed_refuses (after_all (after m (Close w)) later) w (closed_all later (after m (Close w)) w (closed_by m w kept allowed))
