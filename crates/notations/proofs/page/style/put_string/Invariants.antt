use Rattle.std.proofs.Common.{◌≡◌, ◌≤◌, ◌+◌, ◌++◌, length, take, drop}
use Rattle.boards.specs.Room.{room}
use Rattle.notations.specs.Style.{css_string}
use Rattle.notations.proofs.page.style.put_string.Given as goal

abbrev pub invariant-loop-byte : goal.invariant-loop-byte
invariant-loop-byte l = record {
  text : l.text ≡ l.initial.text ++ css_string (take l.byte-index l.title);
  most : length l.text + room 4 (drop l.byte-index l.title) ≤ length l.initial.text + room 4 l.title;
  within : l.byte-index ≤ length l.title;
}
