-- What is written so far, and how many commas are left at most.
use Rattle.std.proofs.Common.{◌≡◌, ◌≤◌, ◌+◌, ◌-◌, ◌/◌, ◌++◌, length, take}
use Rattle.statistics.proofs.Appending.{groups}
use Rattle.statistics.proofs.numbers.put_groups.Given as goal

abbrev pub invariant-loop-i : goal.invariant-loop-i
invariant-loop-i l = record {
  text : l.text ≡ l.initial.text ++ groups (length l.digits) (take l.i l.digits);
  most : length l.text + (length l.digits - l.i) / 3 ≤ length l.initial.text + l.i + length l.digits / 3;
}
