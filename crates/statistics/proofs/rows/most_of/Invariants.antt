-- The greatest count so far.
use Rattle.std.proofs.Common.{◌≡◌, ◌≤◌, ◌-◌, fold, get_or, map, max}
use Rattle.std.specs.List.{range_with_len}
use Rattle.statistics.proofs.rows.most_of.Given as goal

abbrev pub invariant-loop-number : goal.invariant-loop-number
invariant-loop-number l = record {
  most : l.most ≡ fold max 0 (map (λ n. get_or l.counts n 0) (range_with_len l.fn.rows.first (l.number - l.fn.rows.first)));
  first : l.fn.rows.first ≤ l.number;
  within : l.number - l.fn.rows.first ≤ l.fn.rows.end - l.fn.rows.first;
}
