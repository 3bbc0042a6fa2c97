-- Every byte so far is printable.
use Rattle.std.proofs.Common.{◌≡◌, ◌&&◌, true, take, leb}
use Rattle.std.specs.List.{list_all}
use Rattle.statistics.proofs.title.is_shown.Given as goal

abbrev pub invariant-loop-byte : goal.invariant-loop-byte
invariant-loop-byte l = list_all (λ b. leb 0x20 b && leb b 0x7E) (take l.byte-index l.text) ≡ true
