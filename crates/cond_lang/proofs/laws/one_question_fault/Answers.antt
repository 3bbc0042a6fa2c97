use Rattle.cond_lang.proofs.Asking.{one_question_fault}
use Rattle.cond_lang.proofs.laws.one_question_fault.Goals as goal

pub returns : goal.returns
returns c = one_question_fault
