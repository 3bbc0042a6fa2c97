use Rattle.input.specs.Readers.{unread, unread_spells}
use Rattle.input.proofs.records.reader.BoardReader.new.Goals as goal

pub returns-clause-begin : goal.returns-clause-begin
unfolding unread_spells unread
returns-clause-begin c text = c.new.ensures.begin text
