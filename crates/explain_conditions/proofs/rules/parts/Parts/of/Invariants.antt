use Rattle.std.proofs.Common.{◌≡◌, ◌+◌, length}
use Rattle.explain_conditions.proofs.rules.parts.Parts.of.Given as goal

abbrev pub invariant-loop-rest : goal.invariant-loop-rest
invariant-loop-rest l = l.start + length l.rest ≡ length l.text

abbrev pub decreases-loop-rest : goal.decreases-loop-rest
decreases-loop-rest l = length l.rest
