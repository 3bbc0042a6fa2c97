use Rattle.std.proofs.Common.{◌≡◌, ℕ, ◌+◌, ◌-◌, ◌*◌, ◌∙◌, refl, sym, ap, arith}
use Rattle.lcg48.specs.Sequence.{step}
use Rattle.cards.proofs.FreeCards.{nothing_settled, one_settled, settled_at}
use Rattle.cards.proofs.around.settle.Goals as goal

pub loop-pair-init : goal.loop-pair-init
loop-pair-init c = record {
  cards = c.requires.cards;
  settled = nothing_settled _ _ _ _ (omega arith);
}

pub loop-pair-preserved : goal.loop-pair-preserved
loop-pair-preserved c =
    let two = c.next_two-first in
    let p : ℕ = c.args.end - 1 - 2 * c.loop-pair.pair in
    let q : ℕ = c.args.end - 2 - 2 * c.loop-pair.pair in
    let e : c.args.end - 2 * c.loop-pair.pair ≡ p + 1 = omega arith in
    let f : p ≡ q + 1 = omega arith in
    let g : q ≡ c.args.end - 2 * (c.loop-pair.pair + 1) = omega arith in
    record {
      cards = c.exchange-lower.ensures.cards;
      settled =
          settled_at _ _ _ _ _ _ _ _ g
          (one_settled c.args.generator.now two.result.0 two.result.1 two.new.self c.args.cards.now
          c.exchange-upper.new.cards c.exchange-lower.new.cards _ p q c.args.end c.exchange-lower.result
          two.ensures.second f (omega arith)
          (one_settled c.args.generator.now c.loop-pair.generator two.result.0 two.result.0 c.args.cards.now
          c.loop-pair.cards c.exchange-upper.new.cards c.loop-pair.mask _ p c.args.end c.exchange-upper.result
          refl e (omega arith)
          c.loop-pair.invariant.settled (λ fixed free x all d. c.exchange-upper.ensures.dealing fixed free x
          c.loop-pair.generator all two.ensures.first d) c.exchange-upper.ensures.card
          c.exchange-upper.ensures.below)
          (λ fixed free x all d. c.exchange-lower.ensures.dealing fixed free x two.result.0 all
          (two.ensures.second ∙ two.ensures.stepped ∙ ap step (sym two.ensures.first)) d)
          c.exchange-lower.ensures.card c.exchange-lower.ensures.below);
    }

pub returns-then-count-eq1-clause-settled : goal.returns-then-count-eq1-clause-settled
returns-then-count-eq1-clause-settled c =
    one_settled c.args.generator.now c.loop-pair.generator c.next.result c.next.new.self c.args.cards.now
    c.loop-pair.cards c.exchange-card.new.cards c.loop-pair.mask _ (c.args.end - c.args.count) c.args.end
    c.exchange-card.result
    c.next.ensures.value (omega arith) (omega arith) c.loop-pair.invariant.settled
    (λ fixed free x all d. c.exchange-card.ensures.dealing fixed free x c.loop-pair.generator all
    (c.next.ensures.value ∙ c.next.ensures.stepped) d) c.exchange-card.ensures.card c.exchange-card.ensures.below

pub returns-else-count-eq1-clause-settled : goal.returns-else-count-eq1-clause-settled
returns-else-count-eq1-clause-settled c =
    let e : c.args.end - 2 * c.loop-pair.pair ≡ c.args.end - c.args.count = omega (arith, c.if-count-eq1.false) in
    settled_at _ _ _ _ _ _ _ _ e c.loop-pair.invariant.settled
