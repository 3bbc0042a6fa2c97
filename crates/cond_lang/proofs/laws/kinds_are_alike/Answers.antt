use Rattle.cond_lang.proofs.AlikeTexts.{viable_like}
use Rattle.cond_lang.proofs.laws.kinds_are_alike.Goals as goal

pub returns : goal.returns
returns c = viable_like
