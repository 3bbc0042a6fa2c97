use Rattle.cards.proofs.Balance.{balanced_is}
use Rattle.cards.proofs.laws.balanced.Goals as goal

pub returns : goal.returns
returns c = balanced_is
