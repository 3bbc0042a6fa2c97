use Rattle.std.proofs.Common.{◌≡◌, ℕ, ◌<◌, get_or, length}
use Rattle.conditions.specs.Form.{amount_of}
use Rattle.screens.specs.internal.Shares.{weight_at}
use Rattle.screens.proofs.estimate.held_weights.Given as goal

abbrev pub invariant-loop-card : goal.invariant-loop-card
invariant-loop-card l = record {
  each : (c : ℕ) → c < l.card → get_or l.weights c 0 ≡ weight_at (amount_of l.fn.value) c l.fn.seat;
  count : length l.weights ≡ 52;
}
