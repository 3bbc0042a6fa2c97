use Rattle.std.proofs.Common.{◌≡◌, ℕ, ◌-◌, ◌<◌, get_or, length, min}
use Rattle.screens.proofs.gap.differences.Given as goal

abbrev pub invariant-loop-card : goal.invariant-loop-card
invariant-loop-card l = record {
  each : (c : ℕ) → c < l.card → get_or l.weights c 0 ≡ min (get_or l.left c 0 - get_or l.right c 0) 16;
  count : length l.weights ≡ 52;
}
