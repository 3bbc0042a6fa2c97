-- The two numbers are neighbours in the end.
use Rattle.std.proofs.Common.{arith}
use Rattle.statistics.proofs.Roots.{root_found}
use Rattle.statistics.proofs.fractions.whole_root.Goals as goal

pub returns : goal.returns
returns c =
    let i = c.loop-low.invariant in
    root_found c.args.n c.loop-low.low c.loop-low.high i.below i.above i.order (omega arith)
