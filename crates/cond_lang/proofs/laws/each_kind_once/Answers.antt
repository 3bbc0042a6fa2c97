use Rattle.cond_lang.proofs.EachKind.{kind_once}
use Rattle.cond_lang.proofs.laws.each_kind_once.Goals as goal

pub returns : goal.returns
returns c = kind_once
