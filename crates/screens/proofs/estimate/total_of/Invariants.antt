use Rattle.std.proofs.Common.{◌≡◌, ◌*◌, ◌≤◌, get_or}
use Rattle.std.specs.List.{sum_by, range_with_len}
use Rattle.conditions.specs.declared.limits.TheConstants.{MOST_PARTS}
use Rattle.screens.proofs.estimate.total_of.Given as goal

abbrev pub invariant-loop-card : goal.invariant-loop-card
invariant-loop-card l = record {
  so_far : l.total ≡ sum_by (λ c. get_or l.weights c 0) (range_with_len 0 l.card);
  most : l.total ≤ 3825 * MOST_PARTS * l.card;
}
