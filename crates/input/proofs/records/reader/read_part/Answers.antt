use Rattle.input.proofs.Unread.{part_read, part_refused}
use Rattle.input.proofs.records.reader.read_part.Goals as goal

pub returns-clause-reads : goal.returns-clause-reads
returns-clause-reads c = part_read c.args.scanner.now c.read.new.self c.read.new.told c.args.piece.now c.args.from
    c.args.to c.read.result c.requires.within c.read.ensures.reads

pub returns-clause-refused : goal.returns-clause-refused
returns-clause-refused c = part_refused c.args.scanner.now c.args.piece.now c.args.from c.args.to c.read.result
    c.requires.within c.read.ensures.refused
