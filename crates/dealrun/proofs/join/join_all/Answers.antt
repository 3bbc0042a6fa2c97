use Rattle.std.proofs.Common.{◌≡◌, ◌<◌, ◌∙◌, ap, sym, arith, map, get_or, length, subst, vec_len, List, false}
use Rattle.std.proofs.lemmas.List.{get_or-map, get_or-take, get_or-set_other}
use Rattle.std.proofs.Math.Seq.{map-set_same}
use Rattle.lanes.specs.Jobs.{verdicts_around}
use Rattle.lanes.specs.declared.verdict.Verdict.{Verdict}
use Rattle.lanes.specs.declared.worker.WorkEnd.{WorkEnd}
use Rattle.std.specs.declared.thread.PromisedHandle.{PromisedHandle}
use Rattle.dealrun.specs.declared.start.EndsAsAssigned.{EndsAsAssigned}
use Rattle.dealrun.specs.internal.Joins.{JoinedAs}
use Rattle.dealrun.proofs.Joining.{drop_head, drop_rest, drop_short, join_step_to}
use Rattle.dealrun.proofs.join.join_all.Goals as goal

pub join_one-end-requires : goal.join_one-end-requires
join_one-end-requires g c =
    let i = c.loop-handle.invariant in
    let h = c.in-Some.handle in
    let w = c.loop-handle.worker in
    let hs = c.args.handles.items in
    let lane = c.index_mut-lane.result.now in
    let here : get_or hs w h ≡ h = drop_head hs _ w h (sym i.rest ∙ c.in-Some.ensures.steps.0) h in
    let short : w < length hs = drop_short hs _ w h (sym i.rest ∙ c.in-Some.ensures.steps.0) in
    let inside : w < length c.loop-handle.lanes.items = omega
    (arith, short, c.args.handles.ok.0, c.loop-handle.lanes.ok.0, i.len.1, c.requires.counts.0) in
    let mine : get_or (map (λ x. x.promise.lane.value.ring) hs) w lane.ring ≡ h.promise.lane.value.ring =
    get_or-map _ hs w h _ short ∙ ap (λ x. x.promise.lane.value.ring) here in
    let theirs : get_or (map (λ l. l.ring) c.loop-handle.lanes.items) w lane.ring ≡ lane.ring =
    get_or-map _ c.loop-handle.lanes.items w lane _ inside
    ∙ ap (λ l. l.ring) (sym c.index_mut-lane.ensures.value) in
    sym mine ∙ (ap (λ rs. get_or rs w lane.ring) (c.requires.rings)
    ∙ (get_or-take _ _ w lane.ring (omega (arith, short, c.args.handles.ok.0))
    ∙ (ap (λ rs. get_or rs w lane.ring) (sym i.rings) ∙ theirs)))

pub loop-handle-preserved : goal.loop-handle-preserved
loop-handle-preserved g c =
    let i = c.loop-handle.invariant in
    let w = c.loop-handle.worker in
    let hs = c.args.handles.items in
    let rest = sym i.rest ∙ c.in-Some.ensures.steps.0 in
    let lane = c.index_mut-lane.result.now in
    let new = c.join_one-end.new.lane in
    let same = c.join_one-end.ensures.same in
    let h = c.in-Some.handle in
    let all = verdicts_around h.promise.job.value in
    let short : w < length hs = drop_short hs _ w h rest in
    let inside : w < length c.loop-handle.lanes.items = omega
    (arith, short, c.args.handles.ok.0, c.loop-handle.lanes.ok.0, i.len.1, c.requires.counts.0) in
    let f = λ (x : PromisedHandle WorkEnd EndsAsAssigned). verdicts_around x.promise.job.value in
    let at : (d : List Verdict) → get_or (map f hs) w d ≡ all = λ d. get_or-map f hs w h d short ∙ ap f (drop_head hs _ w h rest h) in
    let old : lane.settled ≡ false = ap (λ v. v.settled) c.index_mut-lane.ensures.value
    ∙ i.unsettled w _ (omega arith) (omega (arith, inside, c.loop-handle.lanes.ok.0)) in record {
      len = (omega (arith, i.len.0, c.in-Some.ensures.steps.1), i.len.1);
      rest = sym (drop_rest hs _ w _ rest);
      rings = map-set_same (λ v. v.ring) c.loop-handle.lanes.items w new lane (same.0 ∙ ap (λ v. v.ring) c.index_mut-lane.ensures.value) ∙ i.rings;
      taken = map-set_same (λ v. v.taken) c.loop-handle.lanes.items w new lane (same.1 ∙ ap (λ v. v.taken) c.index_mut-lane.ensures.value) ∙ i.taken;
      unsettled = λ k e above below. ap (λ v. v.settled) (get_or-set_other c.loop-handle.lanes.items w k new e
          (omega arith)) ∙ i.unsettled k e (omega (arith, above)) below;
      joined = join_step_to w (map f hs) c.loop-handle.lanes.items all lane new inside at old c.join_one-end.result _
          _ _ _ c.join_one-end.ensures.joined i.joined c.record.ensures.stopped c.record.ensures.unclosed;
    }

pub returns-clause-joined : goal.returns-clause-joined
returns-clause-joined g c =
    let i = c.loop-handle.invariant in
    let hs = c.args.handles.items in
    let done : c.loop-handle.worker ≡ vec_len c.args.handles = omega (arith, i.len.0, c.in-None.ensures.steps.0) in
    subst (λ n. JoinedAs n (map (λ h. verdicts_around h.promise.job.value) hs) c.loop-handle.lanes.items
    c.loop-handle.joined.stopped c.loop-handle.joined.unclosed) done i.joined
