-- The columns so far were written.
use Rattle.std.proofs.Common.{◌≡◌, ◌≤◌, ◌-◌, length}
use Rattle.std.specs.List.{flat_map, range_with_len}
use Rattle.sinks.specs.Appended.{AppendsAll}
use Rattle.statistics.specs.internal.Lines.{cell_piece}
use Rattle.statistics.specs.internal.PageLines.{columns_of_two}
use Rattle.statistics.proofs.two.Two.put_cells.Given as goal

abbrev pub invariant-loop-column : goal.invariant-loop-column
invariant-loop-column g l = record {
  bytes : AppendsAll (g.S.Sink.bytes l.initial.sink) (g.S.Sink.bytes l.sink)
      (flat_map (cell_piece l.self l.line) (range_with_len (columns_of_two l.self).first (l.column - (columns_of_two l.self).first)));
  faults : g.S.Sink.faults l.sink ≡ g.S.Sink.faults l.initial.sink;
  first : (columns_of_two l.self).first ≤ l.column;
  end : l.column-end ≡ (columns_of_two l.self).end;
  counts : l.column-end ≤ length l.self.column_deals;
  within : l.column - (columns_of_two l.self).first ≤ (columns_of_two l.self).end - (columns_of_two l.self).first;
}
