use Rattle.std.proofs.Common.{◌≡◌, ◌≤◌}
use Rattle.lanes.proofs.ends.LaneOut.pause_for_verdict.Given as goal

abbrev pub invariant-loop : goal.invariant-loop
invariant-loop g l = record {
  ring : l.self.ring ≡ l.initial.self.ring;
  settled : l.self.settled ≡ l.initial.self.settled;
  taken : l.self.taken ≡ l.initial.self.taken;
  left : l.self.left ≡ l.initial.self.left;
  known : l.initial.self.known ≤ l.self.known;
}
