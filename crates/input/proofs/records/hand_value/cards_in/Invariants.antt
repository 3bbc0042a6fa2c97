use Rattle.std.proofs.Common.{◌≤◌, ◌*◌}
use Rattle.input.proofs.HandSums.{Summed}
use Rattle.input.proofs.records.hand_value.cards_in.Given as goal

abbrev pub invariant-loop-byte : goal.invariant-loop-byte
invariant-loop-byte l = record {
  place : l.place ≤ 64 * l.byte-index;
  read : Summed l.text l.byte-index l.place l.cards;
}
