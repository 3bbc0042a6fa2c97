use Rattle.std.proofs.Common.{◌≡◌, ◌≤◌, ◌+◌, false, length}
use Rattle.std.specs.Io.KnownBytes.{Consumes}
use Rattle.input.specs.NumberTexts.{has_lf}
use Rattle.input.proofs.tricks.line.read_line.Given as goal

abbrev pub invariant-loop-turn : goal.invariant-loop-turn
invariant-loop-turn g l = record {
  len : length l.line.items ≡ l.turn;
  few : length l.line.items ≤ 256;
  no_end : has_lf l.line.items ≡ false;
  consumed : Consumes (g.I.Source.rest l.fn.input) (g.I.Source.rest l.input) l.line.items;
  faults : g.I.Source.faults l.input ≡ g.I.Source.faults l.fn.input;
  given : g.I.Source.given l.input ≡ g.I.Source.given l.fn.input + l.turn;
}
