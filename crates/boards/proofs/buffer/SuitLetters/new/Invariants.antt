use Rattle.std.proofs.Common.{◌≡◌, ℕ, ◌<◌, [], get_or, vec_len, vec_capacity}
use Rattle.boards.specs.internal.Sets.{IsEntry}
use Rattle.boards.proofs.buffer.SuitLetters.new.Given as goal

abbrev pub invariant-loop-set : goal.invariant-loop-set
invariant-loop-set l = record {
  done : (k : ℕ) → k < l.set → IsEntry k (get_or l.entries.items k []);
  count : vec_len l.entries ≡ l.set;
  room : vec_capacity l.entries ≡ 8192;
}
