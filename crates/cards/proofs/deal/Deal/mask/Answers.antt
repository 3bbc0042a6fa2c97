use Rattle.std.proofs.Common.{◌<◌, ◌^◌, sym, subst}
use Rattle.cards.specs.declared.seat.Seat.TheVariants.{North, East, South, West}
use Rattle.cards.proofs.DealMasks.{seat_mask-lt}
use Rattle.cards.proofs.deal.Deal.mask.Goals as goal

pub returns-in-North-clause-below : goal.returns-in-North-clause-below
returns-in-North-clause-below c = subst (λ m. m < 2 ^ 52) (sym c.self.invariant.north) (seat_mask-lt _ North c.self.invariant.partition)

pub returns-in-East-clause-below : goal.returns-in-East-clause-below
returns-in-East-clause-below c = subst (λ m. m < 2 ^ 52) (sym c.self.invariant.east) (seat_mask-lt _ East c.self.invariant.partition)

pub returns-in-South-clause-below : goal.returns-in-South-clause-below
returns-in-South-clause-below c = subst (λ m. m < 2 ^ 52) (sym c.self.invariant.south) (seat_mask-lt _ South c.self.invariant.partition)

pub returns-in-West-clause-below : goal.returns-in-West-clause-below
returns-in-West-clause-below c = subst (λ m. m < 2 ^ 52) (sym c.self.invariant.west) (seat_mask-lt _ West c.self.invariant.partition)
