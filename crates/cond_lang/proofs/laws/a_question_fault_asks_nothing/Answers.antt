use Rattle.cond_lang.proofs.Asking.{no_question}
use Rattle.cond_lang.proofs.laws.a_question_fault_asks_nothing.Goals as goal

pub returns : goal.returns
returns c = no_question
