use Rattle.std.proofs.Common.{arith}
use Rattle.conditions.proofs.FewRows.{few_count}
use Rattle.conditions.proofs.ValueBounds.{count_at_most}
use Rattle.conditions.proofs.meaning.times_in.Goals as goal

pub times-requires : goal.times-requires
times-requires c =
    omega (arith, c.count_in.ensures.value, count_at_most c.args.deal.now c.hand-hand.ensures.partition c.args.count, few_count c.args.count)
