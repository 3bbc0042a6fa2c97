use Rattle.std.proofs.Common.{◌∙◌, ap, arith}
use Rattle.cards.specs.declared.seat.Seat.TheVariants.{South}
use Rattle.cards.proofs.Jumps.{hand_there, mask_below}
use Rattle.cards.proofs.candidates.Candidates.deal_south.Goals as goal

pub of_mask-requires : goal.of_mask-requires
of_mask-requires c =
    let dealt = c.deal_south-south.ensures c.self.inside.start c.self.inside.west
    (c.self.invariant.0.one (ap (λ v. v.dealt) c.self.view_is ∙ c.requires)) in
    mask_below _ _ South _ dealt.south_is

pub invariant_of-self : goal.invariant_of-self
invariant_of-self c = (
  record {
    few = omega arith;
    one = λ e. absurd (omega arith);
    two = λ e. c.deal_south-south.ensures c.self.inside.start c.self.inside.west
        (c.self.invariant.0.one (ap (λ v. v.dealt) c.self.view_is ∙ c.requires));
  },
  c.self.invariant.1,
)

pub returns-clause-hand : goal.returns-clause-hand
returns-clause-hand c fixed seed k step at =
    let dealt = c.deal_south-south.ensures c.self.inside.start c.self.inside.west
    (c.self.invariant.0.one (ap (λ v. v.dealt) c.self.view_is ∙ c.requires)) in
    hand_there fixed seed k step c.args.self.now _ _ South _ _ at (ap (λ v. v.state) c.self.view_is)
    (ap (λ v. v.fixed) c.self.view_is) dealt.south_is c.of_mask.ensures
