use Rattle.cards.proofs.GivenCards.{none_given}
use Rattle.cards.proofs.given.Given.none.Goals as goal

pub returns : goal.returns
returns c = none_given
