use Rattle.cond_lang.proofs.Nameless.{viable_without_names}
use Rattle.cond_lang.proofs.laws.same_beginnings_without_names.Goals as goal

pub returns : goal.returns
returns c = viable_without_names
