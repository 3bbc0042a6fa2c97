use Rattle.std.proofs.Common.{refl, take}
use Rattle.input.proofs.Unread.{filled}
use Rattle.input.proofs.records.reader.BoardReader.fill.Goals as goal

pub returns-clause-fills : goal.returns-clause-fills
returns-clause-fills g c = record {
  given = take c.in_ok-count.count c.read.new.piece;
  consumed = c.in_ok-count.ensures.bytes;
  goes_on = filled c.args.self.now _ c.requires.empty refl refl;
}
