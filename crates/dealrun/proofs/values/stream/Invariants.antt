use Rattle.std.proofs.Common.{◌≡◌}
use Rattle.lcg48.specs.Sequence.{state_at}
use Rattle.dealrun.specs.Values.{lines}
use Rattle.sinks.specs.Appended.{AppendsAll}
use Rattle.dealrun.proofs.values.stream.Given as goal

abbrev pub invariant-loop : goal.invariant-loop
invariant-loop g l = record {
  state : l.generator ≡ state_at l.seed l.counter;
  bytes : AppendsAll (g.S.Sink.bytes l.initial.sink) (g.S.Sink.bytes l.sink) (lines l.seed l.counter);
  faults : g.S.Sink.faults l.sink ≡ g.S.Sink.faults l.initial.sink;
}
