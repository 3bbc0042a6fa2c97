use Rattle.cond_lang.proofs.Faults.{no_tree}
use Rattle.cond_lang.proofs.laws.a_syntax_fault_spells_nothing.Goals as goal

pub returns : goal.returns
returns c = no_tree
