-- What is written so far.
use Rattle.std.proofs.Common.{◌≡◌, ◌+◌, ◌++◌, length, replicate}
use Rattle.statistics.proofs.numbers.put_spaces.Given as goal

abbrev pub invariant-loop-space : goal.invariant-loop-space
invariant-loop-space l = record {
  text : l.text ≡ l.initial.text ++ replicate l._space 0x20;
  len : length l.text ≡ length l.initial.text + l._space;
}
