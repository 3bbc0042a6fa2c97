use Rattle.cond_lang.proofs.Asking.{question_or_fault}
use Rattle.cond_lang.proofs.laws.question_or_fault.Goals as goal

pub returns : goal.returns
returns c = question_or_fault
