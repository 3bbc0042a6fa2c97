use Rattle.std.proofs.Common.{arith}
use Rattle.cards.proofs.PackedDeals.{told_all}
use Rattle.cards.proofs.packed.seats_told.Goals as goal

pub returns : goal.returns
returns c =
    told_all c.args.first c.args.second c.args.third c.loop-card.seats c.loop-card.invariant.long (λ i h. c.loop-card.invariant.told i (omega arith))
