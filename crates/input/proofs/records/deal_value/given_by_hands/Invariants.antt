use Rattle.input.proofs.HandTexts.{GivenUpTo}
use Rattle.input.proofs.records.deal_value.given_by_hands.Given as goal

abbrev pub invariant-loop-hand : goal.invariant-loop-hand
invariant-loop-hand l = GivenUpTo l.first l.hands l.hand l.given l.all
