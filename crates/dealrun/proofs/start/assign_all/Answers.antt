use Rattle.std.proofs.Common.{arith, ◌≡◌, ◌∙◌, sym, refl, ap, ◌+◌}
use Rattle.std.proofs.lemmas.List.FromFn.{map-range_with_len_more}
use Rattle.lanes.specs.Jobs.{verdicts_for}
use Rattle.dealrun.specs.internal.Handles.{IsIdle}
use Rattle.dealrun.proofs.Maps.{map_snoc, all_snoc}
use Rattle.dealrun.proofs.start.assign_all.Goals as goal

pub loop-worker-preserved : goal.loop-worker-preserved
loop-worker-preserved g c =
    let i = c.loop-worker.invariant in
    let p = c.in_ok-push.ensures.items in
    let q = c.in_ok-push-2.ensures.items in record {
      len = (c.in_ok-push.ensures.len ∙ ap (λ n. n + 1) i.len.0, c.in_ok-push-2.ensures.len ∙ ap (λ n. n + 1) i.len.1);
      jobs = map_snoc _ _ _ _ _ _ p i.jobs c.in_ok-assignment.ensures.job
          ∙ sym (map-range_with_len_more (verdicts_for c.args.plan.now c.args.cond.now) 0 c.loop-worker.worker
          c.loop-worker.worker (omega arith));
      rings = map_snoc _ _ _ _ _ _ p i.rings c.in_ok-assignment.ensures.ring ∙ sym (map_snoc _ _ _ _ _ _ q (refl) (refl));
      idle = all_snoc IsIdle _ _ _ q i.idle c.in_ok-assignment.ensures.taker;
    }
