-- The most so far.
use Rattle.std.proofs.Common.{◌≡◌, ◌≤◌, ◌-◌, fold, length, map, max}
use Rattle.std.specs.List.{range_with_len}
use Rattle.statistics.specs.internal.Kept.{cell_at}
use Rattle.statistics.specs.internal.PageLines.{columns_of_two}
use Rattle.statistics.proofs.two.Two.most_in_row.Given as goal

abbrev pub invariant-loop-column : goal.invariant-loop-column
invariant-loop-column l = record {
  most : l.most ≡ fold max 0 (map (λ m. cell_at l.self l.row m)
      (range_with_len (columns_of_two l.self).first (l.column - (columns_of_two l.self).first)));
  first : (columns_of_two l.self).first ≤ l.column;
  end : l.column-end ≡ (columns_of_two l.self).end;
  counts : l.column-end ≤ length l.self.column_deals;
  within : l.column - (columns_of_two l.self).first ≤ (columns_of_two l.self).end - (columns_of_two l.self).first;
}
