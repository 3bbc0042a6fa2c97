use Rattle.std.proofs.Common.{◌∙◌, ap}
use Rattle.cards.specs.internal.Masks.{cards_of_mask}
use Rattle.cards.proofs.DealMasks.{cards_of_seat}
use Rattle.cards.proofs.deal.Deal.hand.Goals as goal

pub returns-clause-value : goal.returns-clause-value
returns-clause-value c =
    c.of_mask.ensures ∙ ap cards_of_mask c.mask.ensures.value ∙ cards_of_seat c.args.self.now c.args.seat c.mask.ensures.partition.count
