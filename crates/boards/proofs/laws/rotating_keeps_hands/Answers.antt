use Rattle.boards.proofs.Rotating.{dealers_hand, hands}
use Rattle.boards.proofs.laws.rotating_keeps_hands.Goals as goal

pub returns-clause-dealer : goal.returns-clause-dealer
returns-clause-dealer c = dealers_hand

pub returns-clause-hands : goal.returns-clause-hands
returns-clause-hands c = hands
