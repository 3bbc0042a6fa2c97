use Rattle.std.proofs.Common.{◌≡◌, ◌≤◌, ◌+◌, ◌^◌, length}
use Rattle.input.specs.internal.TricksPicking.{TextSoFar}
use Rattle.input.proofs.tricks.line.read_text.Given as goal

abbrev pub invariant-loop-turn : goal.invariant-loop-turn
invariant-loop-turn g l = record {
  few : length l.line.items ≤ 256;
  turn : l.turn ≤ 2 ^ 50;
  so_far : TextSoFar l.line.items (g.I.Source.rest l.fn.input) (g.I.Source.rest l.input);
  faults : g.I.Source.faults l.input ≡ g.I.Source.faults l.fn.input;
  given : g.I.Source.given l.input ≡ g.I.Source.given l.fn.input + l.turn;
}
