use Rattle.std.proofs.Common.{◌∙◌, ap}
use Rattle.cards.specs.Weights.{weighed}
use Rattle.cards.specs.internal.WeightMasks.{weights_of_masks}
use Rattle.cards.proofs.Weighing.{weighed_by_masks, weighed-le}
use Rattle.cards.proofs.weights.CardWeights.weigh.Goals as goal

pub returns-clause-value : goal.returns-clause-value
returns-clause-value c =
    let ones = c.self.inside.ones in
    let twos = c.self.inside.twos in
    let fours = c.self.inside.fours in
    let eights = c.self.inside.eights in
    weighed_by_masks c.mask-cards.result ones twos fours eights c.mask-cards.ensures.below c.self.invariant
    ∙ ap (weighed (weights_of_masks ones twos fours eights)) c.mask-cards.ensures.cards
    ∙ ap (λ w. weighed w c.args.hand.now) c.self.view_is

pub returns-clause-most : goal.returns-clause-most
returns-clause-most c = weighed-le c.mask-cards.result _ _ _ _ c.mask-cards.ensures.below c.self.invariant
