use Rattle.cond_lang.proofs.Faults.{one_syntax_fault}
use Rattle.cond_lang.proofs.laws.one_fault.Goals as goal

pub returns : goal.returns
returns c = one_syntax_fault
