use Rattle.std.proofs.Common.{◌≡◌, ◌≢◌, ◌%◌, ◌∙◌, ◌+◌, Some, ap, arith, refl, sym}
use Rattle.std.proofs.Math.Seq.{map-set_same}
use Rattle.dealrun.proofs.Advance.{passed_to}
use Rattle.dealrun.proofs.Finals.{goes_on_still}
use Rattle.dealrun.proofs.Wholes.{keeps_taken}
use Rattle.dealrun.proofs.writer.Writer.pass_rejected.Goals as goal

pub returns-then-not-take_rejected-clause-wrote : goal.returns-then-not-take_rejected-clause-wrote
returns-then-not-take_rejected-clause-wrote c layout base bytes boards less h =
    let w = c.loop-taken.self in
    goes_on_still layout w.plan w.lanes.items _ w.progress.taken w.progress.boards base bytes
    (map-set_same (λ v. v.taken) w.lanes.items c.lane.result c.take_rejected.new.self c.index_mut-lane.result.now
    (ap (λ v. v.taken) (c.if-not-take_rejected.ensures.kept refl ∙ c.index_mut-lane.ensures.value)))
    (λ printed. printed ≡ boards) (c.loop-taken.invariant.wrote layout base bytes boards less h)

pub loop-taken-preserved : goal.loop-taken-preserved
loop-taken-preserved c =
    let i = c.loop-taken.invariant in
    let w = c.loop-taken.self in
    let e = c.if-not-take_rejected.ensures in
    let t = e.taken refl in
    let old = c.index_mut-lane.result.now in
    let place : c.lane.result ≡ w.progress.taken % w.plan.workers = c.lane.ensures.lane
    ∙ ap (λ n. n % w.progress.turns.workers) w.progress.turn ∙ ap (λ k. w.progress.taken % k) w.workers in
    record {
      plan = i.plan;
      boards = c.pass.ensures.boards ∙ i.boards;
      taken = c.pass.ensures.taken.0 ∙ ap (λ n. n + 1) i.taken;
      lanes = keeps_taken c.args.self.now.lanes.items w.lanes.items c.lane.result old old c.take_rejected.new.self
          t.verdict i.lanes c.index_mut-lane.ensures.value (refl, refl) refl refl e.same t.taken t.left;
      wrote = λ layout base bytes boards less h.
          let open_still : w.plan.limit ≢ Some w.progress.boards = λ is. less (ap (λ q. q.limit) (sym i.plan) ∙ is ∙ ap (λ n. Some n) i.boards) in
          passed_to layout (λ printed. printed ≡ boards) w.plan w.lanes.items w.progress.taken w.progress.boards base
          bytes t.verdict old c.take_rejected.new.self c.lane.result c.pass.new.self.taken c.pass.new.self.boards
          (omega (arith, c.lane.ensures.below, w.workers)) (i.wrote layout base bytes boards less h) open_still place
          c.index_mut-lane.ensures.value t.taken c.pass.ensures.taken.0 t.rejected c.pass.ensures.boards;
    }
