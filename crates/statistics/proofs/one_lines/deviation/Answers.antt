-- The spread is at most the mean square, times the square of the number.
use Rattle.std.proofs.Common.{arith}
use Rattle.std.proofs.Math.Nat.{mul-le-mul_left, mul_assoc}
use Rattle.statistics.specs.internal.Kept.{most_squared}
use Rattle.statistics.proofs.one_lines.deviation.Goals as goal

pub millionths-requires-clause-whole : goal.millionths-requires-clause-whole
millionths-requires-clause-whole c =
    omega (arith, mul-le-mul_left c.args.deals c.requires.squared, mul_assoc c.args.deals c.args.deals most_squared)
