use Rattle.std.proofs.Common.{refl}
use Rattle.input.proofs.Passing.{first_read}
use Rattle.input.proofs.records.scanner.RecordScanner.take_first.Goals as goal

pub returns-clause-reads : goal.returns-clause-reads
returns-clause-reads c = first_read c.args.self.now c.take.new.self c.take.new.told _ c.args.bytes.now c.take.result
    c.requires.some refl c.take.ensures.goes_on c.take.ensures.room
