use Rattle.std.proofs.Common.{refl}
use Rattle.input.proofs.Boards.{breaks_board, picked_board, picked_none, refused_line}
use Rattle.input.proofs.numbers.picked.NumberPicker.take_byte.Goals as goal

pub returns-in-Ok-None-clause-takes : goal.returns-in-Ok-None-clause-takes
returns-in-Ok-None-clause-takes g c given base p =
    let scans = rw c.in-Ok-None.field-0-is at c.in-Ok-None.ensures.scanned in
    picked_none (g.N.Notation.layout c.args.notation.now) (g.N.Notation.has_printed c.args.notation.now)
    c.args.self.now.plan c.args.self.now.scanner c.take.new.self given c.args.byte base
    (g.S.Sink.bytes c.args.sink.now) scans p

pub returns-in-Ok-clause-takes : goal.returns-in-Ok-clause-takes
returns-in-Ok-clause-takes g c given base p =
    let scans = rw c.in-Ok-Some.field-0-is at c.in-Ok-Some.ensures.scanned in
    picked_board (g.N.Notation.layout c.args.notation.now) (g.N.Notation.layout c.args.notation.now)
    (g.N.Notation.has_printed c.args.notation.now) (g.N.Notation.has_printed c.put_board.new.notation)
    c.args.self.now.plan c.args.self.now.scanner c.take.new.self given c.args.byte
    c.numbers-boards.result c.in-Ok-Some.number base (g.S.Sink.bytes c.args.sink.now) (g.S.Sink.bytes c.put_board.new.sink)
    refl c.numbers-boards.ensures.value scans c.in-Ok.ensures.bytes c.in-Ok.ensures.printed p

pub returns-in-Err-put_board-clause-takes : goal.returns-in-Err-put_board-clause-takes
returns-in-Err-put_board-clause-takes g c given rest base p =
    let scans = rw c.in-Ok-Some.field-0-is at c.in-Ok-Some.ensures.scanned in
    breaks_board (g.N.Notation.layout c.args.notation.now) (g.N.Notation.layout c.args.notation.now)
    (g.N.Notation.has_printed c.args.notation.now) c.args.self.now.plan c.args.self.now.scanner c.take.new.self
    given rest c.args.byte
    c.numbers-boards.result c.in-Ok-Some.number base (g.S.Sink.bytes c.args.sink.now) (g.S.Sink.bytes c.put_board.new.sink)
    refl c.numbers-boards.ensures.value scans c.in-Err-put_board.ensures.bytes p

pub returns-in-Err-clause-takes : goal.returns-in-Err-clause-takes
returns-in-Err-clause-takes g c given rest base p =
    refused_line (g.N.Notation.layout c.args.notation.now) (g.N.Notation.has_printed c.args.notation.now)
    c.args.self.now.plan c.args.self.now.scanner given rest c.args.byte
    c.in-Err.line base (g.S.Sink.bytes c.args.sink.now) c.in-Err.ensures.refused p
