-- The parts are the quotient, which fits.
use Rattle.std.proofs.Common.{arith}
use Rattle.statistics.proofs.Dividing.{divided_in_parts, millionths_fit}
use Rattle.statistics.proofs.one_lines.millionths.Goals as goal

pub returns-clause-value : goal.returns-clause-value
returns-clause-value c = divided_in_parts 1000000 c.args.spread c.args.divisor c.requires.divisor

pub returns-clause-most : goal.returns-clause-most
returns-clause-most c =
    omega (
      arith,
      divided_in_parts 1000000 c.args.spread c.args.divisor c.requires.divisor,
      millionths_fit c.args.spread c.args.divisor c.requires.whole,
    )
