use Rattle.cards.proofs.Rearranging.{rearrangement_is_permutation}
use Rattle.cards.proofs.laws.rearrangement.Goals as goal

pub returns : goal.returns
returns c = rearrangement_is_permutation
