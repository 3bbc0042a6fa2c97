use Rattle.std.proofs.Common.{◌≡◌, ℕ, ◌+◌, ◌*◌, ◌<◌, false, get_or, length}
use Rattle.cards.specs.Hands.{holds_card}
use Rattle.cards.specs.Pack.{suit_number}
use Rattle.cards.proofs.hand.Hand.ranks.Given as goal

abbrev pub invariant-loop-rank : goal.invariant-loop-rank
invariant-loop-rank l = record {
  read : (k : ℕ) → k < l.rank → get_or l.ranks k false ≡ holds_card l.self (13 * suit_number l.fn.suit + k);
  count : length l.ranks ≡ 13;
}
