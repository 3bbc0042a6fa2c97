use Rattle.std.proofs.Common.{◌≡◌, ◌≤◌, ◌+◌, ◌++◌, length, take, drop}
use Rattle.boards.specs.Room.{room}
use Rattle.boards.specs.Html.{escaped}
use Rattle.boards.proofs.html.put_escaped.Given as goal

abbrev pub invariant-loop-byte : goal.invariant-loop-byte
invariant-loop-byte l = record {
  text : l.text ≡ l.initial.text ++ escaped (take l.byte-index l.plain);
  most : length l.text + room 5 (drop l.byte-index l.plain) ≤ length l.initial.text + room 5 l.plain;
  within : l.byte-index ≤ length l.plain;
}
