-- The lines so far were written.
use Rattle.std.proofs.Common.{◌≡◌, ◌≤◌, ◌-◌, length}
use Rattle.std.specs.List.{flat_map, range_with_len}
use Rattle.sinks.specs.Appended.{AppendsAll}
use Rattle.statistics.specs.internal.Parts.{numbered_kept}
use Rattle.statistics.specs.internal.Texts.{rows_of_one}
use Rattle.statistics.proofs.one.One.put_numbered.Given as goal

abbrev pub invariant-loop-number : goal.invariant-loop-number
invariant-loop-number g l = record {
  bytes : AppendsAll (g.S.Sink.bytes l.initial.sink) (g.S.Sink.bytes l.sink)
      (flat_map (numbered_kept l.question l.self) (range_with_len (rows_of_one l.self).first (l.number - (rows_of_one l.self).first)));
  faults : g.S.Sink.faults l.sink ≡ g.S.Sink.faults l.initial.sink;
  first : (rows_of_one l.self).first ≤ l.number;
  end : l.number-end ≡ (rows_of_one l.self).end;
  counts : l.number-end ≤ length l.self.counts;
  within : l.number - (rows_of_one l.self).first ≤ (rows_of_one l.self).end - (rows_of_one l.self).first;
}
