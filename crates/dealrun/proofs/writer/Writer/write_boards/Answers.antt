use Rattle.std.proofs.Common.{◌≡◌, ◌≢◌, ◌<◌, ◌%◌, ◌++◌, ◌∷◌, [], ◌∙◌, Some, ap, arith, length, refl, subst, sym}
use Rattle.std.proofs.lemmas.Bool.{iff_false}
use Rattle.std.proofs.lemmas.Result.{MatchResult-from_err}
use Rattle.std.proofs.Math.Seq.{map-set_same}
use Rattle.lanes.specs.Slots.{verdict_in}
use Rattle.lanes.specs.Jobs.{verdicts_for}
use Rattle.dealrun.specs.internal.Joins.{AllWhole}
use Rattle.dealrun.proofs.Advance.{broken_to, on_to, with_notation}
use Rattle.dealrun.proofs.Finals.{goes_on_still}
use Rattle.dealrun.proofs.Wholes.{keeps_more, keeps_on, keeps_taken, some_left, still}
use Rattle.dealrun.proofs.writer.Writer.write_boards.Goals as goal

pub returns-then-self-count-clause-wrote : goal.returns-then-self-count-clause-wrote
returns-then-self-count-clause-wrote g c base h =
    let l = c.loop-turn.self in
    let w = c.pass_rejected.new.self in
    let layout = g.N.Notation.layout c.args.notation.now in
    let bytes = g.S.Sink.bytes c.loop-turn.sink in
    with_notation layout (g.N.Notation.has_printed c.loop-turn.notation) l.plan w.plan l.lanes.items w.lanes.items
    l.progress.taken w.progress.taken l.progress.boards w.progress.boards base bytes
    (c.loop-turn.invariant.wrote base h) (λ boards. c.pass_rejected.ensures.wrote layout base bytes boards c.loop-turn.invariant.is_open)

pub returns-then-not-wait_for_verdict-clause-lanes : goal.returns-then-not-wait_for_verdict-clause-lanes
returns-then-not-wait_for_verdict-clause-lanes g c =
    let e = c.if-not-wait_for_verdict.ensures in
    let w = c.pass_rejected.new.self in
    let kept = keeps_on c.args.self.now.lanes.items c.loop-turn.self.lanes.items w.lanes.items
    c.loop-turn.invariant.lanes c.pass_rejected.ensures.lanes in
    keeps_more c.args.self.now.lanes.items w.lanes.items c.lane.result c.index_mut-lane.result.now
    c.wait_for_verdict.new.self kept c.index_mut-lane.ensures.value e.same
    (λ _. cc (e.taken, e.left))

pub returns-then-not-wait_for_verdict-clause-wrote : goal.returns-then-not-wait_for_verdict-clause-wrote
returns-then-not-wait_for_verdict-clause-wrote g c base h =
    let l = c.loop-turn.self in
    let w = c.pass_rejected.new.self in
    let layout = g.N.Notation.layout c.args.notation.now in
    let bytes = g.S.Sink.bytes c.loop-turn.sink in
    let passed =
    with_notation layout (g.N.Notation.has_printed c.loop-turn.notation) l.plan w.plan l.lanes.items w.lanes.items
    l.progress.taken w.progress.taken l.progress.boards w.progress.boards base bytes
    (c.loop-turn.invariant.wrote base h) (λ boards. c.pass_rejected.ensures.wrote layout base bytes boards c.loop-turn.invariant.is_open) in
    goes_on_still layout w.plan w.lanes.items _ w.progress.taken w.progress.boards base bytes
    (map-set_same (λ v. v.taken) w.lanes.items c.lane.result c.wait_for_verdict.new.self c.index_mut-lane.result.now
    (c.if-not-wait_for_verdict.ensures.taken ∙ ap (λ v. v.taken) c.index_mut-lane.ensures.value))
    (g.N.Notation.has_printed c.loop-turn.notation) passed

pub returns-then-not-wait_for_verdict-clause-end : goal.returns-then-not-wait_for_verdict-clause-end
returns-then-not-wait_for_verdict-clause-end g c base form h =
    let i = c.loop-turn.invariant in
    let l = c.loop-turn.self in
    let w = c.pass_rejected.new.self in
    let p = c.args.self.now.plan in
    let e = c.if-not-wait_for_verdict.ensures in
    let layout = g.N.Notation.layout c.args.notation.now in
    let bytes = g.S.Sink.bytes c.loop-turn.sink in
    let passed =
    with_notation layout (g.N.Notation.has_printed c.loop-turn.notation) l.plan w.plan l.lanes.items w.lanes.items
    l.progress.taken w.progress.taken l.progress.boards w.progress.boards base bytes
    (i.wrote base h.so_far) (λ boards. c.pass_rejected.ensures.wrote layout base bytes boards i.is_open) in
    let plan_is : w.plan ≡ p = c.pass_rejected.ensures.plan ∙ i.plan in
    let kept = keeps_on c.args.self.now.lanes.items l.lanes.items w.lanes.items i.lanes c.pass_rejected.ensures.lanes in
    let place : c.lane.result ≡ w.progress.taken % w.plan.workers = c.lane.ensures.lane
    ∙ ap (λ n. n % w.progress.turns.workers) w.progress.turn ∙ ap (λ k. w.progress.taken % k) w.workers in
    let first : AllWhole p form c.args.self.now.lanes.items = h.whole (iff_false c.is_full.ensures c.if-is_full.false) in
    let whole : AllWhole w.plan form w.lanes.items = subst (λ q. AllWhole q form w.lanes.items) (sym plan_is)
    (still p c.args.self.now.lanes.items w.lanes.items (λ k vs. vs ≡ verdicts_for p form k) h.so_far.in_turn.long
    kept first) in
    let inside : w.progress.taken < w.plan.count = omega (arith, c.if-self-count.false, c.count.ensures.value, w.few) in
    let left = some_left w.plan form w.lanes.items w.progress.taken c.lane.result c.index_mut-lane.result.now
    (omega (arith, c.lane.ensures.below, w.workers)) passed.in_turn inside place c.index_mut-lane.ensures.value
    whole in
    let known = c.is_settled-settled.ensures.known (c.is_settled-settled.ensures.value ∙ e.same.1 ∙ left.0) in
    absurd (omega (arith, left.1, known, e.none refl, ap length e.left))

pub returns-in_err-write-clause-lanes : goal.returns-in_err-write-clause-lanes
returns-in_err-write-clause-lanes g c =
    let e = c.if-not-wait_for_verdict.ensures in
    let t = c.take_slot-slot.ensures in
    let w = c.pass_rejected.new.self in
    let kept = keeps_on c.args.self.now.lanes.items c.loop-turn.self.lanes.items w.lanes.items
    c.loop-turn.invariant.lanes c.pass_rejected.ensures.lanes in
    keeps_taken c.args.self.now.lanes.items w.lanes.items c.lane.result c.index_mut-lane.result.now
    c.wait_for_verdict.new.self c.take_slot-slot.new.self (verdict_in c.take_slot-slot.result) kept
    c.index_mut-lane.ensures.value e.same e.taken e.left t.same t.taken t.left

pub returns-in_err-write-clause-wrote : goal.returns-in_err-write-clause-wrote
returns-in_err-write-clause-wrote g c base h =
    let i = c.loop-turn.invariant in
    let l = c.loop-turn.self in
    let w = c.pass_rejected.new.self in
    let b = c.in_err-write.ensures.broken in
    let layout = g.N.Notation.layout c.args.notation.now in
    let bytes = g.S.Sink.bytes c.loop-turn.sink in
    let passed =
    with_notation layout (g.N.Notation.has_printed c.loop-turn.notation) l.plan w.plan l.lanes.items w.lanes.items
    l.progress.taken w.progress.taken l.progress.boards w.progress.boards base bytes
    (i.wrote base h) (λ boards. c.pass_rejected.ensures.wrote layout base bytes boards i.is_open) in
    let place : c.lane.result ≡ w.progress.taken % w.plan.workers = c.lane.ensures.lane
    ∙ ap (λ n. n % w.progress.turns.workers) w.progress.turn ∙ ap (λ k. w.progress.taken % k) w.workers in
    let less : w.plan.limit ≢ Some w.progress.boards = λ is. i.is_open
    (ap (λ q. q.limit) (sym c.pass_rejected.ensures.plan) ∙ is ∙ ap (λ n. Some n) c.pass_rejected.ensures.boards)
    in
    let broke =
    broken_to layout (g.N.Notation.layout c.loop-turn.notation) (g.N.Notation.has_printed c.loop-turn.notation) w.plan
    w.lanes.items w.progress.taken w.progress.boards base bytes (verdict_in c.take_slot-slot.result)
    c.index_mut-lane.result.now c.take_slot-slot.new.self c.lane.result c.write.new.self.taken
    c.write.new.self.boards (g.S.Sink.bytes c.write.new.sink)
    (omega (arith, c.lane.ensures.below, w.workers)) passed less place c.index_mut-lane.ensures.value
    (c.take_slot-slot.ensures.taken ∙ ap (λ vs. vs ++ (verdict_in c.take_slot-slot.result) ∷ [])
    c.if-not-wait_for_verdict.ensures.taken) c.in_err-write.ensures.taken.0 b.0 b.1 i.layout b.2 in
    MatchResult-from_err c.from_residual.result _ _ c.from_residual.ensures.0 (λ _. broke)

pub returns-then-is_full-2-clause-lanes : goal.returns-then-is_full-2-clause-lanes
returns-then-is_full-2-clause-lanes g c =
    let e = c.if-not-wait_for_verdict.ensures in
    let t = c.take_slot-slot.ensures in
    let w = c.pass_rejected.new.self in
    let kept = keeps_on c.args.self.now.lanes.items c.loop-turn.self.lanes.items w.lanes.items
    c.loop-turn.invariant.lanes c.pass_rejected.ensures.lanes in
    keeps_taken c.args.self.now.lanes.items w.lanes.items c.lane.result c.index_mut-lane.result.now
    c.wait_for_verdict.new.self c.take_slot-slot.new.self (verdict_in c.take_slot-slot.result) kept
    c.index_mut-lane.ensures.value e.same e.taken e.left t.same t.taken t.left

pub returns-then-is_full-2-clause-wrote : goal.returns-then-is_full-2-clause-wrote
returns-then-is_full-2-clause-wrote g c base h =
    let i = c.loop-turn.invariant in
    let l = c.loop-turn.self in
    let w = c.pass_rejected.new.self in
    let layout = g.N.Notation.layout c.args.notation.now in
    let bytes = g.S.Sink.bytes c.loop-turn.sink in
    let passed =
    with_notation layout (g.N.Notation.has_printed c.loop-turn.notation) l.plan w.plan l.lanes.items w.lanes.items
    l.progress.taken w.progress.taken l.progress.boards w.progress.boards base bytes
    (i.wrote base h) (λ boards. c.pass_rejected.ensures.wrote layout base bytes boards i.is_open) in
    let place : c.lane.result ≡ w.progress.taken % w.plan.workers = c.lane.ensures.lane
    ∙ ap (λ n. n % w.progress.turns.workers) w.progress.turn ∙ ap (λ k. w.progress.taken % k) w.workers in
    let less : w.plan.limit ≢ Some w.progress.boards = λ is. i.is_open
    (ap (λ q. q.limit) (sym c.pass_rejected.ensures.plan) ∙ is ∙ ap (λ n. Some n) c.pass_rejected.ensures.boards)
    in
    on_to layout (g.N.Notation.layout c.loop-turn.notation) (g.N.Notation.has_printed c.loop-turn.notation)
    (g.N.Notation.has_printed c.write.new.notation) w.plan w.lanes.items w.progress.taken w.progress.boards base
    bytes (verdict_in c.take_slot-slot.result) c.index_mut-lane.result.now c.take_slot-slot.new.self c.lane.result
    c.write.new.self.taken c.write.new.self.boards (g.S.Sink.bytes c.report_progress.new.sink)
    (omega (arith, c.lane.ensures.below, w.workers)) passed less place c.index_mut-lane.ensures.value
    (c.take_slot-slot.ensures.taken ∙ ap (λ vs. vs ++ (verdict_in c.take_slot-slot.result) ∷ [])
    c.if-not-wait_for_verdict.ensures.taken) c.in_ok-write.ensures.taken.0 c.in_ok-write.ensures.boards i.layout
    (c.report_progress.ensures.bytes ∙ c.in_ok-write.ensures.bytes) c.in_ok-write.ensures.printed

pub loop-turn-preserved : goal.loop-turn-preserved
loop-turn-preserved g c =
    let i = c.loop-turn.invariant in
    let l = c.loop-turn.self in
    let w = c.pass_rejected.new.self in
    let e = c.if-not-wait_for_verdict.ensures in
    let t = c.take_slot-slot.ensures in
    let layout = g.N.Notation.layout c.args.notation.now in
    let bytes = g.S.Sink.bytes c.loop-turn.sink in
    let kept = keeps_on c.args.self.now.lanes.items l.lanes.items w.lanes.items i.lanes c.pass_rejected.ensures.lanes in
    let place : c.lane.result ≡ w.progress.taken % w.plan.workers = c.lane.ensures.lane
    ∙ ap (λ n. n % w.progress.turns.workers) w.progress.turn ∙ ap (λ k. w.progress.taken % k) w.workers in
    let less : w.plan.limit ≢ Some w.progress.boards = λ is. i.is_open
    (ap (λ q. q.limit) (sym c.pass_rejected.ensures.plan) ∙ is ∙ ap (λ n. Some n) c.pass_rejected.ensures.boards)
    in
    record {
      faults = c.report_progress.ensures.faults ∙ c.in_ok-write.ensures.faults ∙ i.faults;
      layout = c.in_ok-write.ensures.layout ∙ i.layout;
      plan = c.pass_rejected.ensures.plan ∙ i.plan;
      taken = omega (arith, c.in_ok-write.ensures.taken.0, c.pass_rejected.ensures.taken, i.taken);
      lanes = keeps_taken c.args.self.now.lanes.items w.lanes.items c.lane.result c.index_mut-lane.result.now
          c.wait_for_verdict.new.self c.take_slot-slot.new.self (verdict_in c.take_slot-slot.result) kept
          c.index_mut-lane.ensures.value e.same e.taken e.left t.same t.taken t.left;
      is_open = iff_false c.is_full-in-loop-turn.ensures c.if-is_full-2.false;
      wrote = λ base h.
          let passed =
          with_notation layout (g.N.Notation.has_printed c.loop-turn.notation) l.plan w.plan l.lanes.items
          w.lanes.items l.progress.taken w.progress.taken l.progress.boards w.progress.boards base bytes
          (i.wrote base h) (λ boards. c.pass_rejected.ensures.wrote layout base bytes boards i.is_open) in
          on_to layout (g.N.Notation.layout c.loop-turn.notation) (g.N.Notation.has_printed c.loop-turn.notation)
          (g.N.Notation.has_printed c.write.new.notation) w.plan w.lanes.items w.progress.taken w.progress.boards
          base bytes (verdict_in c.take_slot-slot.result) c.index_mut-lane.result.now c.take_slot-slot.new.self
          c.lane.result c.write.new.self.taken c.write.new.self.boards (g.S.Sink.bytes c.report_progress.new.sink)
          (omega (arith, c.lane.ensures.below, w.workers)) passed less place c.index_mut-lane.ensures.value
          (t.taken ∙ ap (λ vs. vs ++ (verdict_in c.take_slot-slot.result) ∷ []) e.taken)
          c.in_ok-write.ensures.taken.0 c.in_ok-write.ensures.boards i.layout
          (c.report_progress.ensures.bytes ∙ c.in_ok-write.ensures.bytes) c.in_ok-write.ensures.printed;
    }
