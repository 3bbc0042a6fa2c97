use Rattle.cards.proofs.AroundLaws.{fixed_stay}
use Rattle.cards.proofs.laws.fixed_cards_stay.Goals as goal

pub returns : goal.returns
returns c = fixed_stay
