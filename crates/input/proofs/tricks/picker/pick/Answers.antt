use Rattle.std.proofs.Common.{◌≡◌, refl, subst, rules, arith}
use Rattle.notations.specs.Formats.{header_with_tricks, layout_in}
use Rattle.input.specs.TricksPicked.{text_picks}
use Rattle.input.specs.Told.{Written, written_by}
use Rattle.input.specs.internal.TricksPicking.{PickedFrom}
use Rattle.input.specs.internal.Telling.{EndsAfter}
use Rattle.input.proofs.PickSteps.{nothing_read, picked_ends, stepped_last}
use Rattle.input.proofs.TellSteps.{header_broken}
use Rattle.input.proofs.tricks.picker.pick.Goals as goal

pub returns-in-Err-clause-tells : goal.returns-in-Err-clause-tells
returns-in-Err-clause-tells g c =
    let p = c.args.printer.now in
    let header : (layout_in p.format p.show p.heading p.tricks).header ≡ header_with_tricks p.format p.heading = rw c.requires.ready refl in
    let part = rw header at (rw c.header.ensures at c.in-Err.ensures.bytes) in
    header_broken (written_by p) (text_picks c.args.plan.now) (g.I.Source.rest c.args.input.now)
    (g.S.Sink.bytes c.args.sink.now) (g.S.Sink.bytes c.put_all.new.sink) part

pub loop-turn-init : goal.loop-turn-init
loop-turn-init g c =
    let p = c.args.printer.now in
    let header : (layout_in p.format p.show p.heading p.tricks).header ≡ header_with_tricks p.format p.heading = rw c.requires.ready refl in
    let put = rw header at (rw c.header.ensures at c.in-Ok.ensures.bytes) in
    record {
      ready = c.requires.ready;
      same = refl;
      few = omega arith;
      turn = omega arith;
      top = omega arith;
      picked = nothing_read (written_by p) c.args.plan.now (g.I.Source.rest c.args.input.now)
          (g.S.Sink.bytes c.args.sink.now) (g.S.Sink.bytes c.put_all.new.sink) put;
      faults = search rules;
      input = refl;
    }

pub returns-in-Ok-2-clause-tells : goal.returns-in-Ok-2-clause-tells
returns-in-Ok-2-clause-tells g c =
    let plan = c.args.plan.now in
    let W = written_by c.loop-turn.printer in
    let step = c.in-Ok-pick_line.step in
    let start = g.I.Source.rest c.args.input.now in
    let base = g.S.Sink.bytes c.args.sink.now in
    let now = g.I.Source.rest c.pick_line.new.input in
    let old = g.S.Sink.bytes c.pick_line.new.sink in
    let so_far : PickedFrom W c.new-picker.result.plan c.loop-turn.turn c.loop-turn.boards start
    (g.I.Source.rest c.loop-turn.input) base (g.S.Sink.bytes c.watch.new.self) =
    rw (c.loop-turn.invariant.same, c.new-picker.ensures, c.watch.ensures.bytes) c.loop-turn.invariant.picked in
    let stepped = rw c.new-picker.ensures at (c.in-Ok-pick_line.ensures.takes start base so_far) in
    let last = stepped_last W plan c.loop-turn.turn step.boards step.end start now base old (c.is_feed.ensures.other c.if-is_feed.false) stepped in
    let ends = subst (λ (w : Written). EndsAfter w c.put_end.result old (g.S.Sink.bytes c.put_end.new.sink))
    c.pick_line.ensures.same c.put_end.ensures.bytes in
    rw (← c.loop-turn.invariant.same) (picked_ends W plan start now base old (g.S.Sink.bytes c.put_end.new.sink) c.put_end.result last ends)
