use Rattle.cond_lang.proofs.Texts.{one_fault}
use Rattle.cond_lang.proofs.laws.one_faulty_piece.Goals as goal

pub returns : goal.returns
returns c = one_fault
