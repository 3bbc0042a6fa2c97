use Rattle.std.proofs.Common.{◌≡◌, ℕ, ◌*◌, ◌<◌, ◌≤◌, None, get_or, length}
use Rattle.conditions.specs.declared.limits.TheConstants.{MOST_PARTS}
use Rattle.conditions.specs.Form.{amount_of}
use Rattle.screens.specs.internal.Shares.{open_weight}
use Rattle.screens.proofs.estimate.open_weights.Given as goal

abbrev pub invariant-loop-card : goal.invariant-loop-card
invariant-loop-card l = record {
  each : (c : ℕ) → c < l.card → get_or l.weights c 0 ≡ open_weight l.fn.bound l.fn.stage (amount_of l.fn.value) c (get_or l.fn.fixed c None);
  most : (c : ℕ) → c < l.card → get_or l.weights c 0 ≤ 3825 * MOST_PARTS;
  count : length l.weights ≡ 52;
}
