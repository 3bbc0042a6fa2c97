-- The items of the row so far were written.
use Rattle.std.proofs.Common.{◌≡◌, ◌≤◌, ◌-◌, ◌||◌, length}
use Rattle.std.specs.List.{flat_map, range_with_len}
use Rattle.sinks.specs.Appended.{AppendsAll}
use Rattle.statistics.specs.internal.Items.{after, has_some, pair_kept}
use Rattle.statistics.specs.internal.PageLines.{columns_of_two}
use Rattle.statistics.proofs.two.Two.put_row_pairs.Given as goal

abbrev pub invariant-loop-column : goal.invariant-loop-column
invariant-loop-column g l = record {
  some : l.some ≡ (l.any || has_some (flat_map (pair_kept l.self l.row)
      (range_with_len (columns_of_two l.self).first (l.column - (columns_of_two l.self).first))));
  bytes : AppendsAll (g.S.Sink.bytes l.initial.sink) (g.S.Sink.bytes l.sink)
      (after l.any (flat_map (pair_kept l.self l.row) (range_with_len (columns_of_two l.self).first (l.column - (columns_of_two l.self).first))));
  faults : g.S.Sink.faults l.sink ≡ g.S.Sink.faults l.initial.sink;
  first : (columns_of_two l.self).first ≤ l.column;
  end : l.column-end ≡ (columns_of_two l.self).end;
  counts : l.column-end ≤ length l.self.column_deals;
  within : l.column - (columns_of_two l.self).first ≤ (columns_of_two l.self).end - (columns_of_two l.self).first;
}
