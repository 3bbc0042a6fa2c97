-- What is written so far.
use Rattle.std.proofs.Common.{◌≡◌, ◌+◌, ◌*◌, ◌++◌, length}
use Rattle.statistics.specs.OneQuestion.{blocks}
use Rattle.statistics.proofs.one_lines.put_blocks.Given as goal

abbrev pub invariant-loop-block : goal.invariant-loop-block
invariant-loop-block l = record {
  text : l.text ≡ l.initial.text ++ blocks l._block;
  len : length l.text ≡ length l.initial.text + 3 * l._block;
}
