use Rattle.cond_lang.proofs.Asking.{same_viable}
use Rattle.cond_lang.proofs.laws.same_place_as_a_condition.Goals as goal

pub returns : goal.returns
returns c = same_viable
