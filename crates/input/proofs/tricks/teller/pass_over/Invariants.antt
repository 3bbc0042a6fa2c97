use Rattle.std.proofs.Common.{◌≡◌, ◌≤◌, ◌+◌, ◌^◌, ℕ, List, [], Option}
use Rattle.boards.specs.Plans.{Planned}
use Rattle.input.specs.Told.{Written}
use Rattle.input.specs.internal.Telling.{ToldFrom}
use Rattle.input.proofs.tricks.teller.pass_over.Given as goal

abbrev pub invariant-loop-turn : goal.invariant-loop-turn
invariant-loop-turn g l = record {
  lines : l.before ≡ l.lines + l.turn;
  turn : l.turn ≤ g.I.Source.given l.input;
  few : l.turn ≤ 2 ^ 50;
  told : (w : Written) (plan : Planned) (numbers : List ℕ) (before base now : Option (List ℕ))
      → ToldFrom w plan numbers l.lines [] before (g.I.Source.rest l.fn.input) base now
      → ToldFrom w plan numbers l.before [] before (g.I.Source.rest l.input) base now;
  faults : g.I.Source.faults l.input ≡ g.I.Source.faults l.fn.input;
}
