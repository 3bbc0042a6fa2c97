use Rattle.std.proofs.Common.{◌≡◌, ℕ, ◌+◌, ◌<◌, get_or, length}
use Rattle.screens.proofs.gap.sums.Given as goal

abbrev pub invariant-loop-card : goal.invariant-loop-card
invariant-loop-card l = record {
  each : (c : ℕ) → c < l.card → get_or l.sums c 0 ≡ get_or l.left c 0 + get_or l.right c 0;
  count : length l.sums ≡ 52;
}
