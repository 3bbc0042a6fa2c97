use Rattle.cards.proofs.RankSets.{rank_bit}
use Rattle.cards.proofs.hand.Hand.rank_set.Goals as goal

pub returns-clause-bits : goal.returns-clause-bits
returns-clause-bits c = λ rank below. rank_bit c.self.inside.cards c.first_card.result rank c.args.self.now
    c.args.suit c.self.invariant c.self.view_is c.first_card.ensures.value below
