use Rattle.std.proofs.Common.{◌≡◌, ◌≤◌, ◌+◌, ◌*◌, ◌++◌, drop, false, length}
use Rattle.notations.specs.Pages.{marks}
use Rattle.notations.proofs.page.par.put_marks.Given as goal

abbrev pub invariant-loop-letter : goal.invariant-loop-letter
invariant-loop-letter l = record {
  text : l.text ++ marks l.played (drop l.letter-index l.contract) ≡ l.initial.text ++ marks false l.contract;
  most : length l.text ≤ length l.initial.text + 15 * l.letter-index;
  within : l.letter-index ≤ length l.contract;
}
