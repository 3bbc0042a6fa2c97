use Rattle.std.proofs.Common.{length}
use Rattle.explain_conditions.proofs.rules.rule.without_zeros.Given as goal

abbrev pub decreases-loop-digits : goal.decreases-loop-digits
decreases-loop-digits l = length l.digits
