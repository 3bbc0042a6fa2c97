use Rattle.std.proofs.Common.{None}
use Rattle.input.specs.internal.TagTexts.{Reads}
use Rattle.input.proofs.records.scanner.RecordScanner.skim.Given as goal

abbrev pub invariant-loop-i : goal.invariant-loop-i
invariant-loop-i l = Reads l.fn.self l.self l.bytes l.i None
