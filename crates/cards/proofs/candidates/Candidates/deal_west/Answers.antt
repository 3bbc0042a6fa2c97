use Rattle.std.proofs.Common.{ap}
use Rattle.cards.specs.declared.seat.Seat.TheVariants.{West}
use Rattle.cards.proofs.Jumps.{hand_there, mask_below}
use Rattle.cards.proofs.candidates.Candidates.deal_west.Goals as goal

pub of_mask-requires : goal.of_mask-requires
of_mask-requires c = mask_below _ _ West _ c.deal_west-west.ensures.west_is

pub returns-clause-hand : goal.returns-clause-hand
returns-clause-hand c fixed seed k step at =
    hand_there fixed seed k step c.args.self.now _ _ West _ _ at (ap (λ v. v.state) c.self.view_is)
    (ap (λ v. v.fixed) c.self.view_is) c.deal_west-west.ensures.west_is c.of_mask.ensures
