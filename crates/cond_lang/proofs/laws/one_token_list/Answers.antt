use Rattle.cond_lang.proofs.Texts.{one_tokens}
use Rattle.cond_lang.proofs.laws.one_token_list.Goals as goal

pub returns : goal.returns
returns c = one_tokens
