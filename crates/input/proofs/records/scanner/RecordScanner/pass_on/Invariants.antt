use Rattle.std.proofs.Common.{◌-◌, None, length}
use Rattle.input.specs.internal.TagTexts.{Reads}
use Rattle.input.proofs.records.scanner.RecordScanner.pass_on.Given as goal

abbrev pub invariant-loop-from : goal.invariant-loop-from
invariant-loop-from l = Reads l.fn.self l.self l.bytes l.from None

abbrev pub decreases-loop-from : goal.decreases-loop-from
decreases-loop-from l = length l.bytes - l.from
