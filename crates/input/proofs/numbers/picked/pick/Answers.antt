use Rattle.std.proofs.Common.{◌≡◌, length, arith, refl, rules, subst, sym, take}
use Rattle.std.proofs.lemmas.Result.{err_from_is_err_and}
use Rattle.sinks.specs.Appended.{AppendsAll, AppendsPart}
use Rattle.input.specs.internal.Picking.{EndsWithin, PickedFrom, TakesMore}
use Rattle.input.proofs.Boards.{picked_nothing}
use Rattle.input.proofs.Pieces.{from_broken, from_failed, from_header, from_more, from_nothing, lines_in}
use Rattle.input.proofs.numbers.picked.pick.Goals as goal

pub returns-in-Err-clause-picked : goal.returns-in-Err-clause-picked
returns-in-Err-clause-picked g c =
    let base = g.S.Sink.bytes c.args.sink.now in
    let now = g.S.Sink.bytes c.put_all.new.sink in
    let layout = g.N.Notation.layout c.args.notation.now in
    from_header layout layout c.args.plan.now (g.I.Source.rest c.args.input.now) base now refl
    (subst (AppendsPart base now) c.header.ensures c.in-Err.ensures.bytes)

pub returns-in_err-count-clause-picked : goal.returns-in_err-count-clause-picked
returns-in_err-count-clause-picked g c =
    let layout = g.N.Notation.layout c.args.notation.now in
    let has = g.N.Notation.has_printed c.loop-turn.notation in
    let scanner = c.loop-turn.picker.scanner in
    let before = g.I.Source.rest c.args.input.now in
    let after = g.I.Source.rest c.loop-turn.input in
    let base = g.S.Sink.bytes c.args.sink.now in
    let picked = subst (PickedFrom layout has c.args.plan.now scanner before after base) (sym c.watch.ensures.bytes) c.loop-turn.invariant.picked in
    let p = err_from_is_err_and c.from_residual.result c.from_residual.ensures.1 in
    rw (p.1, p.2) (from_failed layout has c.args.plan.now scanner before after (g.I.Source.rest c.read.new.self) base
    (g.S.Sink.bytes c.watch.new.self) c.in_err-count.ensures.kept picked)

pub loop-turn-init : goal.loop-turn-init
loop-turn-init g c =
    let base = g.S.Sink.bytes c.args.sink.now in
    let now = g.S.Sink.bytes c.put_all.new.sink in
    let layout = g.N.Notation.layout c.args.notation.now in
    let written = subst (AppendsAll base now) c.header.ensures c.in-Ok.ensures.bytes in
    record {
      layout = refl;
      len = refl;
      plan = c.new-picker.ensures.plan;
      lines = omega (arith, c.new-picker.ensures.lines);
      picked = from_nothing layout (g.N.Notation.has_printed c.args.notation.now) c.args.plan.now
          c.new-picker.result.scanner (g.I.Source.rest c.args.input.now) base now
          (picked_nothing layout layout (g.N.Notation.has_printed c.args.notation.now) c.args.plan.now
          c.new-picker.result.scanner base now refl c.new-picker.ensures.scanned written c.requires.printed);
      faults = c.in-Ok.ensures.faults;
      input = refl;
      reads = omega arith;
      few = omega arith;
    }

pub returns-in-Err-take_piece-clause-picked : goal.returns-in-Err-take_piece-clause-picked
returns-in-Err-take_piece-clause-picked g c =
    let picked = subst (PickedFrom (g.N.Notation.layout c.args.notation.now)
    (g.N.Notation.has_printed c.loop-turn.notation) c.args.plan.now c.loop-turn.picker.scanner
    (g.I.Source.rest c.args.input.now) (g.I.Source.rest c.loop-turn.input) (g.S.Sink.bytes c.args.sink.now))
    (sym c.watch.ensures.bytes) c.loop-turn.invariant.picked in
    from_broken (g.N.Notation.layout c.args.notation.now) (g.N.Notation.layout c.loop-turn.notation)
    (g.N.Notation.has_printed c.loop-turn.notation) c.args.plan.now c.loop-turn.picker.scanner
    c.in-Err-take_piece.fault _
    (g.I.Source.rest c.args.input.now) (g.I.Source.rest c.loop-turn.input) (g.I.Source.rest c.read.new.self)
    (g.S.Sink.bytes c.args.sink.now) (g.S.Sink.bytes c.watch.new.self) (g.S.Sink.bytes c.take_piece.new.sink)
    c.loop-turn.invariant.layout c.in_ok-count.ensures.bytes
    (subst (λ q. EndsWithin (g.N.Notation.layout c.loop-turn.notation)
    (g.N.Notation.has_printed c.loop-turn.notation) q c.loop-turn.picker.scanner
    (take c.in_ok-count.count c.read.new.piece) c.in-Err-take_piece.fault (g.S.Sink.bytes c.watch.new.self)
    (g.S.Sink.bytes c.take_piece.new.sink)) c.loop-turn.invariant.plan c.in-Err-take_piece.ensures.takes) picked

pub loop-turn-preserved : goal.loop-turn-preserved
loop-turn-preserved g c =
    let picked = subst (PickedFrom (g.N.Notation.layout c.args.notation.now)
    (g.N.Notation.has_printed c.loop-turn.notation) c.args.plan.now c.loop-turn.picker.scanner
    (g.I.Source.rest c.args.input.now) (g.I.Source.rest c.loop-turn.input) (g.S.Sink.bytes c.args.sink.now))
    (sym c.watch.ensures.bytes) c.loop-turn.invariant.picked in
    let whole : length c.read.new.piece ≡ 8192 = search rules in
    record {
      layout = search rules;
      len = search rules;
      lines = lines_in c.loop-turn.turn c.in_ok-count.count c.read.new.piece c.loop-turn.picker.scanner.lines
          c.take_piece.new.self.scanner.lines whole c.loop-turn.invariant.lines c.in-Ok-take_piece.ensures.lines;
      picked = from_more (g.N.Notation.layout c.args.notation.now) (g.N.Notation.layout c.loop-turn.notation)
          (g.N.Notation.has_printed c.loop-turn.notation) (g.N.Notation.has_printed c.take_piece.new.notation)
          c.args.plan.now c.loop-turn.picker.scanner c.take_piece.new.self.scanner _
          (g.I.Source.rest c.args.input.now) (g.I.Source.rest c.loop-turn.input) (g.I.Source.rest c.read.new.self)
          (g.S.Sink.bytes c.args.sink.now) (g.S.Sink.bytes c.watch.new.self) (g.S.Sink.bytes c.take_piece.new.sink)
          c.loop-turn.invariant.layout c.in_ok-count.ensures.bytes
          (subst (λ q. TakesMore (g.N.Notation.layout c.loop-turn.notation)
          (g.N.Notation.has_printed c.loop-turn.notation) (g.N.Notation.has_printed c.take_piece.new.notation) q
          c.loop-turn.picker.scanner c.take_piece.new.self.scanner (take c.in_ok-count.count c.read.new.piece)
          (g.S.Sink.bytes c.watch.new.self) (g.S.Sink.bytes c.take_piece.new.sink)) c.loop-turn.invariant.plan
          c.in-Ok-take_piece.ensures.takes) picked;
      plan = search rules;
      faults = search rules;
      input = search rules;
      reads = search rules;
      few = search rules;
    }
