use Rattle.std.proofs.Common.{◌∙◌, sym, ap, subst}
use Rattle.boards.specs.declared.board.Board.{Board}
use Rattle.sinks.specs.Appended.{AppendsAll, AppendsPart}
use Rattle.input.specs.Told.{solved_text, written_by}
use Rattle.input.specs.internal.Telling.{judged}
use Rattle.input.proofs.TellSteps.{board_broken, board_failed, board_told, line_refused}
use Rattle.input.proofs.tricks.teller.tell_board.Goals as goal

pub returns-in_default-clause-takes : goal.returns-in_default-clause-takes
returns-in_default-clause-takes g c plan k is =
    let fails = rw c.in_default.is at c.read_line.ensures.failed in
    board_failed (written_by c.args.printer.now) plan c.args.lines k c.read_line.new.line.items
    (g.I.Source.rest c.args.input.now) (g.I.Source.rest c.read_line.new.input) (g.S.Sink.bytes c.args.sink.now)
    fails

pub returns-in-Err-clause-takes : goal.returns-in-Err-clause-takes
returns-in-Err-clause-takes g c plan k is numbers rest before base h =
    let line = c.read_line.new.line.items in
    let end = c.in-Ok.end in
    let judge = rw c.as_slice.ensures.value at c.judged.ensures in
    let said = sym (ap (λ (b : Board). judged end b.deal line) is) ∙ sym judge ∙ c.in-Err.is in
    rw c.refused.ensures (line_refused (written_by c.args.printer.now) plan c.args.lines k line
    (g.I.Source.rest c.args.input.now) (g.I.Source.rest c.read_line.new.input) (g.S.Sink.bytes c.args.sink.now)
    end c.in-Err.fault c.in-Ok.ensures.reads said numbers rest before base h)

pub returns-in-Ok-put_board-clause-takes : goal.returns-in-Ok-put_board-clause-takes
returns-in-Ok-put_board-clause-takes g c plan k is =
    let line = c.read_line.new.line.items in
    let end = c.in-Ok.end in
    let t = c.in-Ok-judged.tricks in
    let w = written_by c.args.printer.now in
    let judge = rw c.as_slice.ensures.value at c.judged.ensures in
    let said = sym (ap (λ (b : Board). judged end b.deal line) is) ∙ sym judge ∙ c.in-Ok-judged.is in
    let put = subst (λ (b : Board). AppendsAll (g.S.Sink.bytes c.args.sink.now) (g.S.Sink.bytes c.put_board.new.sink)
    (solved_text w (record { board = b; tricks = t }))) is c.in-Ok-put_board.ensures.bytes in
    board_told w plan c.args.lines k line (g.I.Source.rest c.args.input.now) (g.I.Source.rest c.read_line.new.input) (g.S.Sink.bytes c.args.sink.now)
    end t (g.S.Sink.bytes c.put_board.new.sink) c.in-Ok.ensures.reads said put

pub returns-in-Err-put_board-clause-takes : goal.returns-in-Err-put_board-clause-takes
returns-in-Err-put_board-clause-takes g c plan k is =
    let line = c.read_line.new.line.items in
    let end = c.in-Ok.end in
    let t = c.in-Ok-judged.tricks in
    let w = written_by c.args.printer.now in
    let judge = rw c.as_slice.ensures.value at c.judged.ensures in
    let said = sym (ap (λ (b : Board). judged end b.deal line) is) ∙ sym judge ∙ c.in-Ok-judged.is in
    let part = subst (λ (b : Board). AppendsPart (g.S.Sink.bytes c.args.sink.now)
    (g.S.Sink.bytes c.put_board.new.sink) (solved_text w (record { board = b; tricks = t }))) is
    c.in-Err-put_board.ensures.bytes in
    board_broken w plan c.args.lines k line (g.I.Source.rest c.args.input.now) (g.I.Source.rest c.read_line.new.input)
    (g.S.Sink.bytes c.args.sink.now)
    end t (g.S.Sink.bytes c.put_board.new.sink) c.in-Ok.ensures.reads said part
