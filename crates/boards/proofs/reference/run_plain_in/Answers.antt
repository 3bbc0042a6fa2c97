use Rattle.boards.specs.Text.{accepted, boards_of}
use Rattle.boards.proofs.Running.{breaks_footer, with_footer}
use Rattle.boards.proofs.reference.run_plain_in.Goals as goal

pub returns-in-Ok-put_footer-clause-bytes : goal.returns-in-Ok-put_footer-clause-bytes
returns-in-Ok-put_footer-clause-bytes g c =
    let e = c.in-Ok.ensures in
    with_footer (g.N.Notation.layout c.args.notation.now) (g.N.Notation.layout c.write_accepted.new.notation) c.args.plan.now c.args.cond.now
    c.in-Ok.field-0.tried (g.S.Sink.bytes c.args.sink.now) (g.S.Sink.bytes c.write_accepted.new.sink)
    (g.S.Sink.bytes c.put_footer.new.sink) e.layout e.tried e.bytes
    (c.in-Ok-put_footer.ensures.bytes (boards_of c.args.plan.now (accepted c.args.plan.now c.args.cond.now)) e.printed)

pub returns-in-Err-put_footer-clause-bytes : goal.returns-in-Err-put_footer-clause-bytes
returns-in-Err-put_footer-clause-bytes g c =
    let e = c.in-Ok.ensures in
    breaks_footer (g.N.Notation.layout c.args.notation.now) (g.N.Notation.layout c.write_accepted.new.notation) c.args.plan.now c.args.cond.now
    c.in-Ok.field-0.boards c.in-Ok.field-0.tried (g.S.Sink.bytes c.args.sink.now)
    (g.S.Sink.bytes c.write_accepted.new.sink) (g.S.Sink.bytes c.put_footer.new.sink) e.layout e.boards e.tried
    e.bytes
    (c.in-Err-put_footer.ensures.bytes (boards_of c.args.plan.now (accepted c.args.plan.now c.args.cond.now)) e.printed)
