use Rattle.std.proofs.Common.{◌≡◌, ◌<◌, length, arith}
use Rattle.input.specs.Told.{written_by}
use Rattle.input.proofs.TellSteps.{last_ends_at, last_missing}
use Rattle.input.proofs.tricks.teller.end_last.Goals as goal

pub returns-then-others-gt0-clause-ends : goal.returns-then-others-gt0-clause-ends
returns-then-others-gt0-clause-ends g c plan numbers rest before after_it base count h =
    let some : 0 < length rest = omega (arith, count, c.if-others-gt0.true) in
    rw c.refused.ensures (last_missing (written_by c.args.printer.now) plan numbers rest c.args.lines before after_it
    base (g.S.Sink.bytes c.args.sink.now) some h)

pub returns-clause-ends : goal.returns-clause-ends
returns-clause-ends g c plan numbers rest before after_it base count h =
    let none : length rest ≡ 0 = omega (arith, count, c.if-others-gt0.false) in
    last_ends_at (written_by c.args.printer.now) plan numbers rest before after_it base
    (g.S.Sink.bytes c.args.sink.now) (g.S.Sink.bytes c.put_end.new.sink) c.args.lines c.put_end.result none h
    c.put_end.ensures.bytes
