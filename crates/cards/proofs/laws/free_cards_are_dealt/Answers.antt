use Rattle.cards.proofs.AroundLaws.{free_are_dealt}
use Rattle.cards.proofs.laws.free_cards_are_dealt.Goals as goal

pub returns : goal.returns
returns c = free_are_dealt
