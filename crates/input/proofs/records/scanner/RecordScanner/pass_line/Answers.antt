use Rattle.std.proofs.Common.{◌+◌, arith}
use Rattle.input.proofs.Rooms.{roomier}
use Rattle.input.proofs.Tags.{line_passed}
use Rattle.input.proofs.records.scanner.RecordScanner.pass_line.Goals as goal

pub returns-clause-passed : goal.returns-clause-passed
returns-clause-passed c passed rest =
    line_passed c.args.self.now c.pass_line.new.self c.args.tag.now.kind c.args.tag.now.name.now
    c.args.tag.now.value.now c.requires.start.0 c.requires.start.1 c.requires.tag c.requires.kind
    (c.pass_line.ensures.passed passed c.args.tag.now.name.now) rest

pub returns-clause-room : goal.returns-clause-room
returns-clause-room c n before = roomier c.pass_line.new.self (n + n + 1) (n + 1 + (n + 1)) (omega arith) (c.pass_line.ensures.room (n + n) before)
