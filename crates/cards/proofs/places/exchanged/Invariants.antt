use Rattle.std.proofs.Common.{◌-◌}
use Rattle.cards.specs.internal.Exchanges.{IsTraced}
use Rattle.cards.proofs.places.exchanged.Given as goal

abbrev pub invariant-loop-i : goal.invariant-loop-i
invariant-loop-i l = IsTraced l.places l.pack (51 - l.i)
