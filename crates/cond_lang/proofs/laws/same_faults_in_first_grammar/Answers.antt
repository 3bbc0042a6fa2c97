use Rattle.cond_lang.proofs.FirstGrammar.{same_faults_in_first_grammar}
use Rattle.cond_lang.proofs.laws.same_faults_in_first_grammar.Goals as goal

pub returns : goal.returns
returns c = same_faults_in_first_grammar
