use Rattle.std.proofs.Common.{◌+◌, ◌^◌, arith}
use Rattle.input.proofs.Rooms.{on_ok, roomier}
use Rattle.input.proofs.records.scanner.RecordScanner.take.Goals as goal

pub go_on-requires-clause-room : goal.go_on-requires-clause-room
go_on-requires-clause-room c = roomier c.take_cr.new.self.reading (2 ^ 61 + 1) (2 ^ 62) (omega arith) (c.in-Ok.ensures.room (2 ^ 61) c.requires)

pub returns-in-Ok-clause-room : goal.returns-in-Ok-clause-room
returns-in-Ok-clause-room c n before =
    on_ok _ _ c.go_on.result (roomier c.go_on.new.self.reading (n + n + 1 + 1) (n + 1 + (n + 1)) (omega arith))
    (c.go_on.ensures.room (n + n + 1) (c.in-Ok.ensures.room (n + n) before))
