-- The items of the rows so far were written.
use Rattle.std.proofs.Common.{◌≡◌, ◌≤◌, ◌-◌, drop, length}
use Rattle.std.specs.List.{flat_map, range_with_len}
use Rattle.sinks.specs.Appended.{AppendsAll}
use Rattle.statistics.specs.internal.Items.{has_some, row_kept}
use Rattle.statistics.specs.internal.Texts.{rows_of_one}
use Rattle.statistics.proofs.two.Two.put_pairs.Given as goal

abbrev pub invariant-loop-number : goal.invariant-loop-number
invariant-loop-number g l = record {
  some : l.any ≡ has_some (flat_map (row_kept l.self) (range_with_len (rows_of_one l.self.of).first (l.number - (rows_of_one l.self.of).first)));
  bytes : AppendsAll (g.S.Sink.bytes l.initial.sink) (g.S.Sink.bytes l.sink)
      (drop 1 (flat_map (row_kept l.self) (range_with_len (rows_of_one l.self.of).first (l.number - (rows_of_one l.self.of).first))));
  faults : g.S.Sink.faults l.sink ≡ g.S.Sink.faults l.initial.sink;
  first : (rows_of_one l.self.of).first ≤ l.number;
  end : l.number-end ≡ (rows_of_one l.self.of).end;
  counts : l.number-end ≤ length l.self.of.counts;
  within : l.number - (rows_of_one l.self.of).first ≤ (rows_of_one l.self.of).end - (rows_of_one l.self.of).first;
}
