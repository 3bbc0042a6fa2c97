use Rattle.std.proofs.Common.{◌≡◌, ◌+◌, ◌≤◌, ◌<◌, ℕ, map, drop, vec_len, slice_index_or, false}
use Rattle.std.specs.Vec.Iter.{into_iter_items, into_iter_len}
use Rattle.lanes.specs.Jobs.{verdicts_around}
use Rattle.dealrun.specs.internal.Joins.{JoinedAs}
use Rattle.dealrun.proofs.join.join_all.Given as goal

abbrev pub invariant-loop-handle : goal.invariant-loop-handle
invariant-loop-handle g l = record {
  len : (l.worker + into_iter_len l.handle-iterator ≡ vec_len l.fn.handles) × (vec_len l.lanes ≡ vec_len l.initial.lanes);
  rest : into_iter_items l.handle-iterator ≡ drop l.worker l.fn.handles.items;
  rings : map (λ v. v.ring) l.lanes.items ≡ map (λ v. v.ring) l.initial.lanes.items;
  taken : map (λ v. v.taken) l.lanes.items ≡ map (λ v. v.taken) l.initial.lanes.items;
  unsettled : (k : ℕ) (e : _) → l.worker ≤ k → k < vec_len l.lanes → (slice_index_or l.lanes.items k e).settled ≡ false;
  joined : JoinedAs l.worker (map (λ h. verdicts_around h.promise.job.value) l.fn.handles.items) l.lanes.items l.joined.stopped l.joined.unclosed;
}
