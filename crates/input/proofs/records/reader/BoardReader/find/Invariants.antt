use Rattle.std.proofs.Common.{◌≡◌, ◌≤◌}
use Rattle.input.specs.Readers.{Fills, IsFed, IsReady, left}
use Rattle.input.proofs.records.reader.BoardReader.find.Given as goal

abbrev pub invariant-loop-turn : goal.invariant-loop-turn
invariant-loop-turn g l = record {
  so_far : Fills l.fn.self l.self (g.I.Source.rest l.fn.input) (g.I.Source.rest l.input);
  ready : IsReady l.self;
  fed : IsFed l.self (g.I.Source.given l.input);
  taken : l.fn.self.taken ≤ l.self.taken;
  faults : g.I.Source.faults l.input ≡ g.I.Source.faults l.fn.input;
  turns : l.turn ≤ left l.self;
}
