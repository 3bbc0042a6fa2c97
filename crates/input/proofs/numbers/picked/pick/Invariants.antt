use Rattle.std.proofs.Common.{◌≡◌, ◌≤◌, ◌*◌, ◌^◌, length}
use Rattle.input.specs.internal.Picking.{PickedFrom}
use Rattle.input.proofs.numbers.picked.pick.Given as goal

abbrev pub invariant-loop-turn : goal.invariant-loop-turn
invariant-loop-turn g l = record {
  layout : g.N.Notation.layout l.notation ≡ g.N.Notation.layout l.fn.notation;
  len : length l.piece ≡ 8192;
  plan : l.picker.plan ≡ l.plan;
  lines : l.picker.scanner.lines ≤ l.turn * 8192;
  picked : PickedFrom (g.N.Notation.layout l.fn.notation) (g.N.Notation.has_printed l.notation) l.plan l.picker.scanner
      (g.I.Source.rest l.fn.input) (g.I.Source.rest l.input) (g.S.Sink.bytes l.fn.sink) (g.S.Sink.bytes l.sink);
  faults : g.S.Sink.faults l.sink ≡ g.S.Sink.faults l.fn.sink;
  input : g.I.Source.faults l.input ≡ g.I.Source.faults l.fn.input;
  reads : l.turn ≤ g.I.Source.given l.input;
  few : l.turn ≤ 2 ^ 50;
}
