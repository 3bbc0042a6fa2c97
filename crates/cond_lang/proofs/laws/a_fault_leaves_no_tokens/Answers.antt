use Rattle.cond_lang.proofs.Texts.{no_tokens}
use Rattle.cond_lang.proofs.laws.a_fault_leaves_no_tokens.Goals as goal

pub returns : goal.returns
returns c = no_tokens
