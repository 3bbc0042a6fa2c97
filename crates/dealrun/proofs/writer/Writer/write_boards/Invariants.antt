use Rattle.std.proofs.Common.{◌≡◌, ◌≢◌, ◌≤◌, ℕ, List, Option, Some}
use Rattle.dealrun.specs.internal.Writing.{GoesOn, KeepsLanes}
use Rattle.dealrun.proofs.writer.Writer.write_boards.Given as goal

abbrev pub invariant-loop-turn : goal.invariant-loop-turn
invariant-loop-turn g l = record {
  faults : g.S.Sink.faults l.sink ≡ g.S.Sink.faults l.initial.sink;
  layout : g.N.Notation.layout l.notation ≡ g.N.Notation.layout l.initial.notation;
  plan : l.self.plan ≡ l.initial.self.plan;
  taken : l._turn ≤ l.self.progress.taken;
  lanes : KeepsLanes l.initial.self.lanes.items l.self.lanes.items;
  is_open : l.self.plan.limit ≢ Some l.self.progress.boards;
  wrote : (base : Option (List ℕ)) → GoesOn (g.N.Notation.layout l.initial.notation)
      (g.N.Notation.has_printed l.initial.notation) l.initial.self base (g.S.Sink.bytes l.initial.sink)
      → GoesOn (g.N.Notation.layout l.initial.notation) (g.N.Notation.has_printed l.notation) l.self base
      (g.S.Sink.bytes l.sink);
}
