use Rattle.std.proofs.Common.{◌<◌, All, arith, rules}
use Rattle.cards.proofs.Weighing.{shown, each_light}
use Rattle.cards.proofs.weights.CardWeights.new.Goals as goal

pub returns-then-all-clause-kept : goal.returns-then-all-clause-kept
returns-then-all-clause-kept c =
    let light : All (λ w. w < 16) c.args.weights.now = search rules in
    shown c.args.weights.now _ _ _ _ (omega arith) (each_light c.args.weights.now light)
    c.cards_with_bit.ensures.value c.cards_with_bit-then-all.ensures.value c.cards_with_bit-then-all-2.ensures.value
    c.cards_with_bit-then-all-3.ensures.value
