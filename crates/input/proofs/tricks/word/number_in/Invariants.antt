use Rattle.std.proofs.Common.{◌≤◌, ℕ, List, take}
use Rattle.input.specs.Scans.{HasScanned}
use Rattle.input.proofs.tricks.word.number_in.Given as goal

abbrev pub invariant-loop-byte : goal.invariant-loop-byte
invariant-loop-byte l = record {
  scanned : (numbers : List ℕ) × HasScanned l.scanner (take l.byte-index l.word) numbers;
  lines : l.scanner.lines ≤ l.byte-index;
}
