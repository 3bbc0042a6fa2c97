use Rattle.std.proofs.Common.{refl}
use Rattle.input.proofs.Boards.{all_none, all_number, breaks_last, refused_last}
use Rattle.input.proofs.numbers.picked.NumberPicker.end_input.Goals as goal

pub returns-in-Ok-None-clause-ends : goal.returns-in-Ok-None-clause-ends
returns-in-Ok-None-clause-ends g c given base p =
    let says = rw c.in-Ok-None.field-0-is at c.in-Ok-None.ensures.said in
    all_none (g.N.Notation.layout c.args.notation.now) (g.N.Notation.has_printed c.args.notation.now)
    c.args.self.now.plan c.args.self.now.scanner given c.numbers-boards.result base
    (g.S.Sink.bytes c.args.sink.now) c.numbers-boards.ensures.value says p

pub returns-in-Ok-clause-ends : goal.returns-in-Ok-clause-ends
returns-in-Ok-clause-ends g c given base p =
    let says = rw c.in-Ok-Some.field-0-is at c.in-Ok-Some.ensures.said in
    all_number (g.N.Notation.layout c.args.notation.now) (g.N.Notation.layout c.args.notation.now)
    (g.N.Notation.has_printed c.args.notation.now) (g.N.Notation.has_printed c.put_board.new.notation)
    c.args.self.now.plan c.args.self.now.scanner given
    c.numbers-boards.result c.in-Ok-Some.number base (g.S.Sink.bytes c.args.sink.now) (g.S.Sink.bytes c.put_board.new.sink)
    refl c.numbers-boards.ensures.value says c.in-Ok.ensures.bytes c.in-Ok.ensures.printed p

pub returns-in-Err-put_board-clause-ends : goal.returns-in-Err-put_board-clause-ends
returns-in-Err-put_board-clause-ends g c given base p =
    let says = rw c.in-Ok-Some.field-0-is at c.in-Ok-Some.ensures.said in
    breaks_last (g.N.Notation.layout c.args.notation.now) (g.N.Notation.layout c.args.notation.now)
    (g.N.Notation.has_printed c.args.notation.now) c.args.self.now.plan c.args.self.now.scanner given
    c.numbers-boards.result c.in-Ok-Some.number base (g.S.Sink.bytes c.args.sink.now) (g.S.Sink.bytes c.put_board.new.sink)
    refl c.numbers-boards.ensures.value says c.in-Err-put_board.ensures.bytes p

pub returns-in-Err-clause-ends : goal.returns-in-Err-clause-ends
returns-in-Err-clause-ends g c given base p =
    refused_last (g.N.Notation.layout c.args.notation.now) (g.N.Notation.has_printed c.args.notation.now)
    c.args.self.now.plan c.args.self.now.scanner given c.in-Err.line base (g.S.Sink.bytes c.args.sink.now)
    c.in-Err.ensures.refused p
