use Rattle.std.proofs.Common.{◌≡◌, ◌++◌, take}
use Rattle.lanes.specs.Slots.{verdicts_in}
use Rattle.lanes.proofs.worker.send_each.Given as goal

abbrev pub invariant-loop-i : goal.invariant-loop-i
invariant-loop-i g l = record {
  ring : l.lane.ring ≡ l.initial.lane.ring;
  sent : l.lane.sent ≡ l.initial.lane.sent ++ verdicts_in (take l.i l.block);
}
