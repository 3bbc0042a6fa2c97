use Rattle.std.proofs.Common.{◌≡◌, ◌≤◌, ◌+◌, ℕ, List, Option}
use Rattle.input.specs.Readers.{IsFed, IsReady}
use Rattle.input.specs.internal.Showing.{ShownFrom}
use Rattle.input.proofs.records.shown.show_rest.Given as goal

abbrev pub invariant-loop-turn : goal.invariant-loop-turn
invariant-loop-turn g l = record {
  layout : g.N.SolvedNotation.layout l.notation ≡ g.N.SolvedNotation.layout l.fn.notation;
  shown : (before base : Option (List ℕ))
      → ShownFrom (g.N.SolvedNotation.layout l.fn.notation) l.fn.reader l.fn.written before
      (g.I.Source.rest l.fn.input) base (g.S.Sink.bytes l.fn.sink)
      → ShownFrom (g.N.SolvedNotation.layout l.fn.notation) l.reader l.boards before (g.I.Source.rest l.input) base (g.S.Sink.bytes l.sink);
  ready : IsReady l.reader;
  fed : IsFed l.reader (g.I.Source.given l.input);
  faults : g.S.Sink.faults l.sink ≡ g.S.Sink.faults l.fn.sink;
  input : g.I.Source.faults l.input ≡ g.I.Source.faults l.fn.input;
  turns : l.turn ≤ l.reader.taken;
  boards : l.boards ≤ l.turn + 1;
}
