use Rattle.std.proofs.Common.{◌≡◌, None, Some, sym, subst}
use Rattle.std.specs.Prelude.{Err, Ok}
use Rattle.input.specs.Told.{Solved, written_by}
use Rattle.input.specs.internal.TricksPicking.{solved_in, text_of}
use Rattle.input.proofs.PickSteps.{LineGiven, board_broken, board_picked, line_failed, line_given, line_refused, nothing_picked, text_clean, too_long}
use Rattle.input.proofs.Words.{tells_from}
use Rattle.input.proofs.tricks.picker.TricksPicker.pick_line.Goals as goal

pub returns-in_default-clause-takes : goal.returns-in_default-clause-takes
returns-in_default-clause-takes g c before base h =
    let fails = rw c.in_default.is at c.read_text.ensures.failed in
    line_failed (written_by c.args.printer.now) c.args.self.now.plan c.args.lines c.args.boards before
    (g.I.Source.rest c.args.input.now) (g.I.Source.rest c.read_text.new.input) base
    (g.S.Sink.bytes c.args.sink.now) fails h

pub board_of-requires-clause-line : goal.board_of-requires-clause-line
board_of-requires-clause-line g c =
    let clean = text_clean c.in-Ok.end c.read_text.new.line.items c.in-Ok.ensures.reads.clean in
    rw (c.text_of.ensures, c.as_slice.ensures.value) clean

pub returns-in-Ok-None-clause-takes : goal.returns-in-Ok-None-clause-takes
returns-in-Ok-None-clause-takes g c before base h =
    let line = c.read_text.new.line.items in
    let w = written_by c.args.printer.now in
    let plan = c.args.self.now.plan in
    let lines = c.args.lines in
    let count = c.args.boards in
    let then_it = g.I.Source.rest c.args.input.now in
    let now = g.I.Source.rest c.read_text.new.input in
    let old = g.S.Sink.bytes c.args.sink.now in
    let end = c.in-Ok.end in
    let reads = c.in-Ok.ensures.reads in
    let says : tells_from plan count (text_of end line) ≡ Ok None =
    sym (rw (c.text_of.ensures, c.as_slice.ensures.value) at (rw c.in-Ok-None.field-0-is at c.in-Ok-None.ensures.tells)) in
    let given = subst (λ r. LineGiven w plan lines count end r before now base old) says
    (line_given w plan lines count line before then_it now base old end reads h) in
    nothing_picked w plan lines count before now base old end (too_long plan count line end None then_it now reads says) given

pub returns-in-Ok-put_board-clause-takes : goal.returns-in-Ok-put_board-clause-takes
returns-in-Ok-put_board-clause-takes g c before base h =
    let line = c.read_text.new.line.items in
    let w = written_by c.args.printer.now in
    let plan = c.args.self.now.plan in
    let lines = c.args.lines in
    let count = c.args.boards in
    let then_it = g.I.Source.rest c.args.input.now in
    let now = g.I.Source.rest c.read_text.new.input in
    let old = g.S.Sink.bytes c.args.sink.now in
    let end = c.in-Ok.end in
    let reads = c.in-Ok.ensures.reads in
    let s : Solved = solved_in c.in-Ok-Some.picked in
    let says : tells_from plan count (text_of end line) ≡ Ok (Some s) =
    sym (rw (c.text_of.ensures, c.as_slice.ensures.value) at (rw c.in-Ok-Some.field-0-is at c.in-Ok-Some.ensures.tells)) in
    let given = subst (λ r. LineGiven w plan lines count end r before now base old) says
    (line_given w plan lines count line before then_it now base old end reads h) in
    board_picked w plan lines count before now base old end s (g.S.Sink.bytes c.put_board.new.sink)
    (too_long plan count line end (Some s) then_it now reads says) given c.in-Ok-put_board.ensures.bytes

pub returns-in-Err-put_board-clause-takes : goal.returns-in-Err-put_board-clause-takes
returns-in-Err-put_board-clause-takes g c before base h =
    let line = c.read_text.new.line.items in
    let w = written_by c.args.printer.now in
    let plan = c.args.self.now.plan in
    let lines = c.args.lines in
    let count = c.args.boards in
    let then_it = g.I.Source.rest c.args.input.now in
    let now = g.I.Source.rest c.read_text.new.input in
    let old = g.S.Sink.bytes c.args.sink.now in
    let end = c.in-Ok.end in
    let reads = c.in-Ok.ensures.reads in
    let s : Solved = solved_in c.in-Ok-Some.picked in
    let says : tells_from plan count (text_of end line) ≡ Ok (Some s) =
    sym (rw (c.text_of.ensures, c.as_slice.ensures.value) at (rw c.in-Ok-Some.field-0-is at c.in-Ok-Some.ensures.tells)) in
    let given = subst (λ r. LineGiven w plan lines count end r before now base old) says
    (line_given w plan lines count line before then_it now base old end reads h) in
    board_broken w plan lines count end before now base old s (g.S.Sink.bytes c.put_board.new.sink) given c.in-Err-put_board.ensures.bytes

pub returns-in-Err-clause-takes : goal.returns-in-Err-clause-takes
returns-in-Err-clause-takes g c before base h =
    let line = c.read_text.new.line.items in
    let w = written_by c.args.printer.now in
    let plan = c.args.self.now.plan in
    let lines = c.args.lines in
    let count = c.args.boards in
    let then_it = g.I.Source.rest c.args.input.now in
    let now = g.I.Source.rest c.read_text.new.input in
    let old = g.S.Sink.bytes c.args.sink.now in
    let end = c.in-Ok.end in
    let reads = c.in-Ok.ensures.reads in
    let fault = c.in-Err.fault in
    let says : tells_from plan count (text_of end line) ≡ Err fault =
    sym (rw (c.text_of.ensures, c.as_slice.ensures.value) at (c.in-Err.ensures.tells)) in
    let given = subst (λ r. LineGiven w plan lines count end r before now base old) says
    (line_given w plan lines count line before then_it now base old end reads h) in
    rw c.refused.ensures (line_refused w plan lines count end before now base old fault given)
