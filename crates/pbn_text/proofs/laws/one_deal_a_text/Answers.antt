use Rattle.pbn_text.proofs.Reading.{deal_from_game}
use Rattle.pbn_text.proofs.laws.one_deal_a_text.Goals as goal

pub returns : goal.returns
returns c = deal_from_game
