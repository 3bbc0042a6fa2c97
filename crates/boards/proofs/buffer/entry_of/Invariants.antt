use Rattle.std.proofs.Common.{◌≡◌, ◌≤◌, take, length}
use Rattle.boards.proofs.Sets.{first_letters}
use Rattle.boards.proofs.buffer.entry_of.Given as goal

abbrev pub invariant-loop-rank : goal.invariant-loop-rank
invariant-loop-rank l = record {
  written : take l.end l.entry ≡ first_letters l.set l.rank;
  size : length l.entry ≡ 16;
  count : l.end ≡ length (first_letters l.set l.rank);
  room : l.end ≤ l.rank;
}
