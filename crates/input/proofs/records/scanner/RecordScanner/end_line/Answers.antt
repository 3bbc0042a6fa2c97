use Rattle.std.proofs.Common.{◌+◌, arith}
use Rattle.input.proofs.Rooms.{on_ok, roomier}
use Rattle.input.proofs.Scanning.{line_ended, line_refused}
use Rattle.input.proofs.records.scanner.RecordScanner.end_line.Goals as goal

pub returns-clause-goes_on : goal.returns-clause-goes_on
returns-clause-goes_on c = line_ended c.args.self.now c.end_line.new.self c.end_line.new.told c.end_line.result c.end_line.ensures.ends

pub returns-clause-refused : goal.returns-clause-refused
returns-clause-refused c = line_refused c.args.self.now c.end_line.result c.end_line.ensures.refused

pub returns-clause-room : goal.returns-clause-room
returns-clause-room c n before =
    on_ok _ _ c.end_line.result (roomier c.end_line.new.self (n + n + 1) (n + 1 + (n + 1)) (omega arith)) (c.end_line.ensures.room (n + n) before)
