use Rattle.std.proofs.Common.{arith, refl}
use Rattle.input.proofs.HandTexts.{last_hand, next_hand}
use Rattle.input.proofs.HowMany.{no_card}
use Rattle.input.proofs.records.deal_value.given_by_hands.Goals as goal

pub loop-hand-init : goal.loop-hand-init
loop-hand-init c = record { most = omega (arith, no_card); read = λ whole. rw c.none-given.ensures refl }

pub loop-hand-preserved : goal.loop-hand-preserved
loop-hand-preserved c =
    next_hand c.args.first c.args.hands.now c.loop-hand.hand _ c.loop-hand.given c.give_hand-all.new.given
    c.loop-hand.all c.give_hand-all.result c.if-hands-ne-WHOLE.false c.loop-hand-test.true (omega arith)
    c.if-hands-from-ne-BETWEEN.false
    c.give_hand-all.ensures.most c.give_hand-all.ensures.gives c.loop-hand.invariant

pub returns-then-all-eq-PACK : goal.returns-then-all-eq-PACK
returns-then-all-eq-PACK c =
    last_hand c.args.first c.args.hands.now c.loop-hand.hand _ c.loop-hand.given c.give_hand-all-2.new.given
    c.loop-hand.all c.give_hand-all-2.result c.if-hands-ne-WHOLE.false
    (omega (arith, c.loop-hand-test.false, c.loop-hand.auto.hand-end)) (omega arith)
    c.give_hand-all-2.ensures.most c.give_hand-all-2.ensures.gives c.loop-hand.invariant c.if-all-eq-PACK.true
