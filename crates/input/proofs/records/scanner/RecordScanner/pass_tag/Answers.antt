use Rattle.std.proofs.Common.{◌+◌, arith}
use Rattle.input.proofs.Rooms.{roomier}
use Rattle.input.proofs.Tags.{tag_passed}
use Rattle.input.proofs.records.scanner.RecordScanner.pass_tag.Goals as goal

pub returns-clause-passed : goal.returns-clause-passed
returns-clause-passed c passed rest =
    tag_passed c.args.self.now c.pass_tag.new.self c.args.tag.now.kind c.args.tag.now.name.now
    c.args.tag.now.value.now c.requires.start.0 c.requires.start.1 c.requires.tag c.requires.kind
    (c.pass_tag.ensures.passed passed) rest

pub returns-clause-room : goal.returns-clause-room
returns-clause-room c n before = roomier c.pass_tag.new.self (n + n) (n + 1 + (n + 1)) (omega arith) (c.pass_tag.ensures.room (n + n) before)
