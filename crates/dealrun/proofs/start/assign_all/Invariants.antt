use Rattle.std.proofs.Common.{◌≡◌, All, map, vec_len}
use Rattle.std.specs.List.{range_with_len}
use Rattle.lanes.specs.Jobs.{verdicts_around, verdicts_for}
use Rattle.dealrun.specs.internal.Handles.{IsIdle}
use Rattle.dealrun.proofs.start.assign_all.Given as goal

abbrev pub invariant-loop-worker : goal.invariant-loop-worker
invariant-loop-worker g l = record {
  len : (vec_len l.assignments ≡ l.worker) × (vec_len l.lanes ≡ l.worker);
  jobs : map (λ p. verdicts_around p.job) l.assignments.items ≡ map (verdicts_for l.plan l.cond) (range_with_len 0 l.worker);
  rings : map (λ p. p.lane.ring) l.assignments.items ≡ map (λ v. v.ring) l.lanes.items;
  idle : All IsIdle l.lanes.items;
}
