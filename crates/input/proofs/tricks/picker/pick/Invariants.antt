use Rattle.std.proofs.Common.{◌≡◌, ◌≤◌, ◌^◌}
use Rattle.input.specs.Told.{IsReady, written_by}
use Rattle.input.specs.internal.TricksPicking.{PickedFrom}
use Rattle.input.proofs.tricks.picker.pick.Given as goal

abbrev pub invariant-loop-turn : goal.invariant-loop-turn
invariant-loop-turn g l = record {
  ready : IsReady l.printer;
  same : written_by l.printer ≡ written_by l.fn.printer;
  few : l.boards ≤ 2 ^ 40;
  turn : l.turn ≤ g.I.Source.given l.input;
  top : l.turn ≤ 2 ^ 50;
  picked : PickedFrom (written_by l.fn.printer) l.plan l.turn l.boards (g.I.Source.rest l.fn.input)
      (g.I.Source.rest l.input) (g.S.Sink.bytes l.fn.sink) (g.S.Sink.bytes l.sink);
  faults : g.S.Sink.faults l.sink ≡ g.S.Sink.faults l.fn.sink;
  input : g.I.Source.faults l.input ≡ g.I.Source.faults l.fn.input;
}
