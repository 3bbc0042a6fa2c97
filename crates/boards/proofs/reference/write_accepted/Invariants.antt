use Rattle.std.proofs.Common.{◌≡◌, ◌+◌}
use Rattle.cards.specs.CandidateWalks.{GoesOnAt}
use Rattle.boards.proofs.Running.{Running}
use Rattle.boards.proofs.reference.write_accepted.Given as goal

abbrev pub invariant-loop-place : goal.invariant-loop-place
invariant-loop-place g l = record {
  layout : g.N.Notation.layout l.notation ≡ g.N.Notation.layout l.fn.notation;
  running : Running (g.N.Notation.layout l.fn.notation) (g.N.Notation.has_printed l.notation) l.plan l.cond l.place
      l.boards (g.S.Sink.bytes l.fn.sink) (g.S.Sink.bytes l.sink);
  next : GoesOnAt l.candidates l.plan.fixed l.plan.seed (l.plan.first + l.place) 1;
  tried : l.tried ≡ l.place;
  faults : g.S.Sink.faults l.sink ≡ g.S.Sink.faults l.fn.sink;
}
