use Rattle.input.proofs.Scanning.{at_begin}
use Rattle.input.proofs.records.scanner.RecordScanner.new.Goals as goal

pub returns-clause-begin : goal.returns-clause-begin
returns-clause-begin c = at_begin c.new.result c.new.ensures.value
