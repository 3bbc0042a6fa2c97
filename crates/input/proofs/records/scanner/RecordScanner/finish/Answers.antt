use Rattle.std.proofs.Common.{[], ◌+◌, ◌^◌, arith, refl}
use Rattle.input.proofs.Rooms.{roomier}
use Rattle.input.proofs.Scanning.{text_ended, text_refused}
use Rattle.input.proofs.records.scanner.RecordScanner.finish.Goals as goal

pub returns-in-Ok-clause-says : goal.returns-in-Ok-clause-says
returns-in-Ok-clause-says c =
    text_ended c.args.self.now c.take_cr.new.self c.finish.new.told c.finish.result (c.in-Ok.ensures.goes_on [] refl)
    c.in-Ok.ensures.taken c.finish.ensures.ends

pub returns-in-Ok-clause-refused : goal.returns-in-Ok-clause-refused
returns-in-Ok-clause-refused c =
    text_refused c.args.self.now c.take_cr.new.self c.finish.result (c.in-Ok.ensures.goes_on [] refl) c.in-Ok.ensures.taken c.finish.ensures.refused

pub finish-requires : goal.finish-requires
finish-requires c = roomier c.take_cr.new.self.reading (2 ^ 61 + 1) (2 ^ 62) (omega arith) (c.in-Ok.ensures.room (2 ^ 61) c.requires)
