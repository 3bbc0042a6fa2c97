use Rattle.std.proofs.Common.{refl}
use Rattle.input.proofs.Scanned.{scanned_none}
use Rattle.input.proofs.numbers.scanner.NumberScanner.new.Goals as goal

pub returns-clause-scanned : goal.returns-clause-scanned
returns-clause-scanned c = scanned_none _ (rw c.new.ensures refl)
