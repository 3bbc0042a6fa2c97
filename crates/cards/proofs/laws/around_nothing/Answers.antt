use Rattle.cards.proofs.AroundLaws.{around_nothing}
use Rattle.cards.proofs.laws.around_nothing.Goals as goal

pub returns : goal.returns
returns c = around_nothing
