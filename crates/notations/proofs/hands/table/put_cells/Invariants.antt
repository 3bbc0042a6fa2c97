use Rattle.std.proofs.Common.{◌≡◌, ◌≤◌, ◌+◌, ◌*◌, ◌++◌, length, take}
use Rattle.std.specs.Prelude.{flat_map}
use Rattle.notations.specs.Records.{cell_text}
use Rattle.notations.proofs.hands.table.put_cells.Given as goal

abbrev pub invariant-loop-digit : goal.invariant-loop-digit
invariant-loop-digit l = record {
  text : l.text ≡ l.initial.text ++ flat_map cell_text (take l.digit-index l.digits);
  most : length l.text ≤ length l.initial.text + 22 * l.digit-index;
  within : l.digit-index ≤ length l.digits;
}
