use Rattle.std.proofs.Common.{◌≡◌}
use Rattle.lanes.proofs.ends.LaneIn.wait_for_room.Given as goal

abbrev pub invariant-loop : goal.invariant-loop
invariant-loop g l = (l.self.ring ≡ l.initial.self.ring) × (l.self.sent ≡ l.initial.self.sent)
