use Rattle.std.proofs.Common.{◌≤◌, take}
use Rattle.input.specs.Scans.{HasScanned}
use Rattle.input.proofs.tricks.numbers.numbers_of.Given as goal

abbrev pub invariant-loop-byte : goal.invariant-loop-byte
invariant-loop-byte l = record {
  scanned : HasScanned l.scanner (take l.byte-index l.text) l.numbers.items;
  lines : l.scanner.lines ≤ l.byte-index;
}
