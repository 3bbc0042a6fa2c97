use Rattle.std.proofs.Common.{◌≤◌}
use Rattle.test_values.proofs.numbers.scan.Given as goal

abbrev pub invariant-loop-byte : goal.invariant-loop-byte
invariant-loop-byte l = l.scanner.lines ≤ l.byte-index
