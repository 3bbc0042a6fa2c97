use Rattle.input.proofs.Boards.{breaks_footer, with_footer}
use Rattle.input.proofs.numbers.picked.NumberPicker.finish.Goals as goal

pub returns-in-Ok-put_footer-clause-ends : goal.returns-in-Ok-put_footer-clause-ends
returns-in-Ok-put_footer-clause-ends g c given base p =
    with_footer (g.N.Notation.layout c.args.notation.now) (g.N.Notation.layout c.end_input.new.notation)
    (g.N.Notation.has_printed c.end_input.new.notation) c.args.self.now.plan c.in-Ok.boards given base
    (g.S.Sink.bytes c.end_input.new.sink) (g.S.Sink.bytes c.put_footer.new.sink)
    c.in-Ok.ensures.layout c.in-Ok-put_footer.ensures.bytes (c.in-Ok.ensures.ends given base p)

pub returns-in-Err-put_footer-clause-ends : goal.returns-in-Err-put_footer-clause-ends
returns-in-Err-put_footer-clause-ends g c given base p =
    breaks_footer (g.N.Notation.layout c.args.notation.now) (g.N.Notation.layout c.end_input.new.notation)
    (g.N.Notation.has_printed c.end_input.new.notation) c.args.self.now.plan c.in-Ok.boards given base
    (g.S.Sink.bytes c.end_input.new.sink) (g.S.Sink.bytes c.put_footer.new.sink)
    c.in-Ok.ensures.layout c.in-Err-put_footer.ensures.bytes (c.in-Ok.ensures.ends given base p)
