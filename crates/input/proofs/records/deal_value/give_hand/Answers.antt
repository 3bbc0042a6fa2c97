use Rattle.std.proofs.Common.{◌≡◌, arith}
use Rattle.input.specs.internal.Hands.{how_many}
use Rattle.input.proofs.HowMany.{no_card}
use Rattle.input.proofs.records.deal_value.give_hand.Goals as goal

pub returns-else-give_all-clause-most : goal.returns-else-give_all-clause-most
returns-else-give_all-clause-most c = rw no_card (omega arith)

pub returns-else-give_all-clause-gives : goal.returns-else-give_all-clause-gives
returns-else-give_all-clause-gives c whole rest = absurd (let none : how_many 0 ≡ 13 = whole in omega (arith, none, no_card))
