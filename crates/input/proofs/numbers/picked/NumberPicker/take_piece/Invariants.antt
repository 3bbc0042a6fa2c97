use Rattle.std.proofs.Common.{◌≡◌, ◌≤◌, ◌+◌, ◌++◌, ℕ, List, Option, take}
use Rattle.input.specs.internal.Picking.{PickedSoFar}
use Rattle.input.proofs.numbers.picked.NumberPicker.take_piece.Given as goal

abbrev pub invariant-loop-byte : goal.invariant-loop-byte
invariant-loop-byte g l = record {
  plan : l.self.plan ≡ l.fn.self.plan;
  layout : g.N.Notation.layout l.notation ≡ g.N.Notation.layout l.fn.notation;
  lines : l.self.scanner.lines ≤ l.fn.self.scanner.lines + l.byte-index;
  picked : (given : List ℕ) (base : Option (List ℕ))
      → PickedSoFar (g.N.Notation.layout l.fn.notation) (g.N.Notation.has_printed l.fn.notation) l.fn.self.plan
      l.fn.self.scanner given base (g.S.Sink.bytes l.fn.sink)
      → PickedSoFar (g.N.Notation.layout l.fn.notation) (g.N.Notation.has_printed l.notation) l.fn.self.plan
      l.self.scanner (given ++ take l.byte-index l.piece) base (g.S.Sink.bytes l.sink);
  faults : g.S.Sink.faults l.sink ≡ g.S.Sink.faults l.fn.sink;
}
