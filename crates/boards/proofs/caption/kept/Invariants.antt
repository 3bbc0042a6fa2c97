use Rattle.std.proofs.Common.{◌≡◌, ℕ, get_or, length, take}
use Rattle.boards.proofs.caption.kept.Given as goal

abbrev pub invariant-loop-i : goal.invariant-loop-i
invariant-loop-i l = record {
  copied : (k : ℕ) → get_or l.bytes k 0 ≡ get_or (take l.i l.text) k 0;
  count : length l.bytes ≡ 400;
}
