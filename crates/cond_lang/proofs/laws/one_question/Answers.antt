use Rattle.cond_lang.proofs.Asking.{one_asked}
use Rattle.cond_lang.proofs.laws.one_question.Goals as goal

pub returns : goal.returns
returns c = one_asked
