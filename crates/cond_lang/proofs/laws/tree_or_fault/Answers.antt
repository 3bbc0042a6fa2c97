use Rattle.cond_lang.proofs.Faults.{tree_or_fault}
use Rattle.cond_lang.proofs.laws.tree_or_fault.Goals as goal

pub returns : goal.returns
returns c = tree_or_fault
