use Rattle.std.proofs.Common.{refl}
use Rattle.input.specs.internal.Endings.{told_if}
use Rattle.input.proofs.Unread.{bytes_read, bytes_refused, still_ready}
use Rattle.input.proofs.records.reader.BoardReader.take_piece.Goals as goal

pub returns-in-Ok-clause-goes_on : goal.returns-in-Ok-clause-goes_on
returns-in-Ok-clause-goes_on c = bytes_read c.args.self.now _ c.in-Ok.count
    (told_if c.in-Ok.ended c.read_part.new.told) c.in-Ok.ensures.reads refl refl refl

pub returns-in-Ok-clause-ready : goal.returns-in-Ok-clause-ready
returns-in-Ok-clause-ready c = still_ready c.args.self.now _ c.in-Ok.count
    (told_if c.in-Ok.ended c.read_part.new.told) c.in-Ok.ensures.reads refl refl refl refl c.requires

pub returns-in-Err-clause-refused : goal.returns-in-Err-clause-refused
returns-in-Err-clause-refused c = bytes_refused c.args.self.now _ c.in-Err.ensures.refused
