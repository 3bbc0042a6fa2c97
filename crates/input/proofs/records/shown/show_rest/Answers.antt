use Rattle.std.proofs.Common.{arith, rules, subst, sym}
use Rattle.input.specs.internal.Showing.{ShownFrom}
use Rattle.input.proofs.Written.{breaks_board, input_kept, shows_board, shows_end, shows_failed, shows_last, shows_refused}
use Rattle.input.proofs.records.shown.show_rest.Goals as goal

pub returns-in-Ok-Last-clause-shows : goal.returns-in-Ok-Last-clause-shows
returns-in-Ok-Last-clause-shows g c before base start =
    let layout = g.N.SolvedNotation.layout c.args.notation.now in
    let now = g.I.Source.rest c.loop-turn.input in
    let p = subst (ShownFrom layout c.loop-turn.reader c.loop-turn.boards before now base)
    (sym c.next_watched.ensures.bytes) (c.loop-turn.invariant.shown before base start) in
    shows_last layout (g.N.SolvedNotation.layout c.loop-turn.notation) c.loop-turn.reader c.next_watched.new.reader
    c.loop-turn.boards before now (g.I.Source.rest c.next_watched.new.input) base
    (g.S.Sink.bytes c.next_watched.new.sink) (g.S.Sink.bytes c.put_last.new.sink)
    c.next_watched.new.told c.put_last.result c.loop-turn.invariant.layout
    (rw c.in-Ok-Last.field-0-is at c.in-Ok-Last.ensures.reads) c.put_last.ensures.bytes p

pub returns-in-Ok-Last-clause-input : goal.returns-in-Ok-Last-clause-input
returns-in-Ok-Last-clause-input g c = input_kept c.put_last.result _ _ c.put_last.ensures.fault (search rules)

pub returns-in-Ok-End-clause-shows : goal.returns-in-Ok-End-clause-shows
returns-in-Ok-End-clause-shows g c before base start =
    let layout = g.N.SolvedNotation.layout c.args.notation.now in
    let now = g.I.Source.rest c.loop-turn.input in
    let p = subst (ShownFrom layout c.loop-turn.reader c.loop-turn.boards before now base)
    (sym c.next_watched.ensures.bytes) (c.loop-turn.invariant.shown before base start) in
    shows_end layout (g.N.SolvedNotation.layout c.loop-turn.notation) c.loop-turn.reader c.next_watched.new.reader
    c.loop-turn.boards before now (g.I.Source.rest c.next_watched.new.input) base
    (g.S.Sink.bytes c.next_watched.new.sink) (g.S.Sink.bytes c.put_end.new.sink)
    c.put_end.result c.loop-turn.invariant.layout (rw c.in-Ok-End.field-0-is at c.in-Ok-End.ensures.reads) c.put_end.ensures.bytes p

pub returns-in-Ok-End-clause-input : goal.returns-in-Ok-End-clause-input
returns-in-Ok-End-clause-input g c = input_kept c.put_end.result _ _ c.put_end.ensures.fault (search rules)

pub returns-in-Err-Refused-clause-shows : goal.returns-in-Err-Refused-clause-shows
returns-in-Err-Refused-clause-shows g c before base start =
    let layout = g.N.SolvedNotation.layout c.args.notation.now in
    let now = g.I.Source.rest c.loop-turn.input in
    let p = subst (ShownFrom layout c.loop-turn.reader c.loop-turn.boards before now base)
    (sym c.next_watched.ensures.bytes) (c.loop-turn.invariant.shown before base start) in
    rw c.in-Err-Refused.field-0-is (shows_refused layout c.loop-turn.reader c.next_watched.new.reader
    c.loop-turn.boards before now (g.I.Source.rest c.next_watched.new.input) base
    (g.S.Sink.bytes c.next_watched.new.sink)
    c.in-Err-Refused.line (rw c.in-Err-Refused.field-0-is at c.in-Err-Refused.ensures.reads) p)

pub returns-in-Err-Input-clause-shows : goal.returns-in-Err-Input-clause-shows
returns-in-Err-Input-clause-shows g c before base start =
    let layout = g.N.SolvedNotation.layout c.args.notation.now in
    let now = g.I.Source.rest c.loop-turn.input in
    let p = subst (ShownFrom layout c.loop-turn.reader c.loop-turn.boards before now base)
    (sym c.next_watched.ensures.bytes) (c.loop-turn.invariant.shown before base start) in
    shows_failed layout c.loop-turn.reader c.next_watched.new.reader c.loop-turn.boards before now
    (g.I.Source.rest c.next_watched.new.input) base (g.S.Sink.bytes c.next_watched.new.sink)
    (rw c.in-Err-Input.field-0-is at c.in-Err-Input.ensures.reads) p

pub returns-in-Err-clause-shows : goal.returns-in-Err-clause-shows
returns-in-Err-clause-shows g c before base start =
    let layout = g.N.SolvedNotation.layout c.args.notation.now in
    let now = g.I.Source.rest c.loop-turn.input in
    let p = subst (ShownFrom layout c.loop-turn.reader c.loop-turn.boards before now base)
    (sym c.next_watched.ensures.bytes) (c.loop-turn.invariant.shown before base start) in
    breaks_board layout (g.N.SolvedNotation.layout c.loop-turn.notation) c.loop-turn.reader c.next_watched.new.reader
    c.loop-turn.boards before now (g.I.Source.rest c.next_watched.new.input) base
    (g.S.Sink.bytes c.next_watched.new.sink) (g.S.Sink.bytes c.put.new.sink)
    c.next_watched.new.told c.loop-turn.invariant.layout (rw c.in-Ok-Board.field-0-is at c.in-Ok-Board.ensures.reads) c.in-Err.ensures.bytes p

pub loop-turn-preserved : goal.loop-turn-preserved
loop-turn-preserved g c =
    let layout = g.N.SolvedNotation.layout c.args.notation.now in
    let now = g.I.Source.rest c.loop-turn.input in
    let ready = rw c.in-Ok-Board.field-0-is at c.in-Ok-Board.ensures.ready in
    let fed = rw c.in-Ok-Board.field-0-is at c.in-Ok-Board.ensures.fed in
    let more = rw c.in-Ok-Board.field-0-is at c.in-Ok-Board.ensures.more in
    record {
      layout = search rules;
      shown = λ before base start.
          let p = subst (ShownFrom layout c.loop-turn.reader c.loop-turn.boards before now base)
          (sym c.next_watched.ensures.bytes) (c.loop-turn.invariant.shown before base start) in
          shows_board layout (g.N.SolvedNotation.layout c.loop-turn.notation) c.loop-turn.reader
          c.next_watched.new.reader c.loop-turn.boards before now (g.I.Source.rest c.next_watched.new.input) base
          (g.S.Sink.bytes c.next_watched.new.sink) (g.S.Sink.bytes c.put.new.sink)
          c.next_watched.new.told c.loop-turn.invariant.layout (rw c.in-Ok-Board.field-0-is at c.in-Ok-Board.ensures.reads) c.in-Ok.ensures.bytes p;
      ready = ready;
      fed = fed;
      faults = search rules;
      input = search rules;
      turns = omega (arith, more, c.loop-turn.invariant.turns);
      boards = omega (arith, c.loop-turn.invariant.boards);
    }
