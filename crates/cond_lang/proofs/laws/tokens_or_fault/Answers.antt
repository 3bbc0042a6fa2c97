use Rattle.cond_lang.proofs.Faults.{tokens_or_fault}
use Rattle.cond_lang.proofs.laws.tokens_or_fault.Goals as goal

pub returns : goal.returns
returns c = tokens_or_fault
