use Rattle.std.proofs.Common.{◌≡◌, ◌*◌, ◌≤◌, None, get_or}
use Rattle.std.specs.List.{sum_by, range_with_len}
use Rattle.screens.specs.Held.{card_share}
use Rattle.screens.proofs.unmet.held.had.Given as goal

abbrev pub invariant-loop-card : goal.invariant-loop-card
invariant-loop-card l = record {
  so_far : l.total ≡ sum_by (λ c. card_share l.count c (get_or l.seats c None) l.free) (range_with_len 0 l.card);
  most : l.total ≤ 255 * l.card;
}
