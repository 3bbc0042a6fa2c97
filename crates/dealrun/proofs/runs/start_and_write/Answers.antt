use Rattle.std.proofs.Common.{◌≡◌, ◌<◌, arith, length, vec_len, map}
use Rattle.lanes.specs.Jobs.{verdicts_around}
use Rattle.std.proofs.lemmas.List.{length-map}
use Rattle.dealrun.proofs.Finals.{not_started, all_owe}
use Rattle.dealrun.proofs.runs.start_and_write.Goals as goal

pub returns-then-not-start_all-clause-ends : goal.returns-then-not-start_all-clause-ends
returns-then-not-start_all-clause-ends g c =
    let p = c.args.plan.now in
    let lanes = c.join_all.new.lanes in
    let handles = c.start_all.new.handles in
    let len : length lanes.items ≡ p.workers = omega (arith, lanes.ok.0, c.join_all.ensures.len, c.in-Ok.ensures.len.1) in
    let few : vec_len handles < p.workers = omega (arith, c.start_all.ensures.not_all c.if-not-start_all.true, c.in-Ok.ensures.len.0) in
    not_started (g.N.Notation.layout c.args.notation.now) p c.args.cond (vec_len handles)
    (map (λ h. verdicts_around h.promise.job.value) handles.items)
    (map (λ a. verdicts_around a.job) c.in-Ok.assignments.items) c.in-Ok.lanes.items lanes.items _ _ _
    c.in-Ok.ensures.few.0 len few c.in-Ok.ensures.jobs c.start_all.ensures.jobs c.join_all.ensures.joined
    (λ k e above below. c.join_all.ensures.rest k e above (omega (arith, below, lanes.ok.0))) c.join_all.ensures.taken c.in-Ok.ensures.idle

pub returns-clause-ends : goal.returns-clause-ends
returns-clause-ends g c =
    let p = c.args.plan.now in
    let handles = c.start_all.new.handles in
    let assigned = c.in-Ok.assignments in
    let whole : vec_len handles ≡ length (map (λ a. verdicts_around a.job) assigned.items) =
    simp length-map (omega (arith, c.start_all.ensures.all c.if-not-start_all.false, assigned.ok.0)) in
    c.write_all.ensures.ends c.args.cond
    (all_owe p c.args.cond (vec_len handles) (map (λ h. verdicts_around h.promise.job.value) handles.items)
    (map (λ a. verdicts_around a.job) assigned.items) c.start_all.ensures.jobs whole c.in-Ok.ensures.jobs)
