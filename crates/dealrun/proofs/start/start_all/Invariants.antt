use Rattle.std.proofs.Common.{◌≡◌, ◌+◌, ◌++◌, ◌≤◌, map, vec_len, vec_capacity}
use Rattle.std.specs.Vec.Iter.{into_iter_items, into_iter_len}
use Rattle.lanes.specs.Jobs.{verdicts_around}
use Rattle.dealrun.proofs.start.start_all.Given as goal

abbrev pub invariant-loop-assignment : goal.invariant-loop-assignment
invariant-loop-assignment g l = record {
  len : vec_len l.handles + into_iter_len l.assignment-iterator ≡ vec_len l.fn.assignments;
  room : vec_len l.fn.assignments ≤ vec_capacity l.handles;
  jobs : map (λ h. verdicts_around h.promise.job.value) l.handles.items
      ++ map (λ p. verdicts_around p.job) (into_iter_items l.assignment-iterator) ≡ map (λ p. verdicts_around p.job)
      l.fn.assignments.items;
  rings : map (λ h. h.promise.lane.value.ring) l.handles.items
      ++ map (λ p. p.lane.ring) (into_iter_items l.assignment-iterator) ≡ map (λ p. p.lane.ring)
      l.fn.assignments.items;
}
