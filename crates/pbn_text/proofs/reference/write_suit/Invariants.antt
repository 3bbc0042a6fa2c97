use Rattle.std.proofs.Common.{◌≡◌, ◌+◌, ◌≤◌, ◌++◌, take, length}
use Rattle.pbn_text.proofs.Suits.{first_ranks}
use Rattle.pbn_text.proofs.reference.write_suit.Given as goal

abbrev pub invariant-loop-rank : goal.invariant-loop-rank
invariant-loop-rank l = record {
  written : take l.end l.buffer ≡ take l.fn.start l.initial.buffer ++ first_ranks l.hand l.fn.suit l.rank;
  size : length l.buffer ≡ 64;
  end_is : l.end ≡ l.fn.start + length (first_ranks l.hand l.fn.suit l.rank);
  at_most : l.end ≤ l.fn.start + l.rank;
}
