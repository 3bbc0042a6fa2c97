use Rattle.std.proofs.Common.{◌≡◌, ◌==◌, ◌<◌, ◌≤◌, Bool, List, false, map, length, ◌∙◌, sym, ap, arith}
use Rattle.std.specs.Int.{bit_at}
use Rattle.std.proofs.lemmas.List.{get_or-map, length-map, take_all}
use Rattle.std.proofs.lemmas.Simd.{mask_l-lt}
use lib.Lanes.{mask_l}
use Rattle.cards.proofs.Weighing.{with_card, without_card}
use Rattle.cards.proofs.weights.cards_with_bit.Goals as goal
use Rattle.cards.proofs.weights.cards_with_bit.Goals.{then-has_bit, else-has_bit}

pub loop-card-preserved : goal.loop-card-preserved
loop-card-preserved c =
    let cards : List Bool = map (λ w. bit_at w c.args.bit == 1) c.args.weights.now in
    let inside : c.loop-card.card < length cards = simp length-map (omega arith) in
    let read = get_or-map (λ w. bit_at w c.args.bit == 1) c.args.weights.now c.loop-card.card 0 false (omega arith) in
    elim c.if-has_bit.branch [
      | then-has_bit w ↦ with_card cards c.loop-card.card c.loop-card.mask c.if-has_bit.mask inside (omega arith)
          c.loop-card.invariant (read ∙ sym c.has_bit.ensures ∙ w.if-has_bit.true) w.mask-is
      | else-has_bit w ↦ without_card cards c.loop-card.card c.loop-card.mask c.if-has_bit.mask inside
          c.loop-card.invariant (read ∙ sym c.has_bit.ensures ∙ w.if-has_bit.false) w.mask-is
    ]

pub returns-clause-value : goal.returns-clause-value
returns-clause-value c =
    let cards : List Bool = map (λ w. bit_at w c.args.bit == 1) c.args.weights.now in
    let whole : length cards ≤ c.loop-card.card = simp length-map (omega arith) in
    c.loop-card.invariant ∙ ap mask_l (take_all c.loop-card.card cards whole)

pub returns-clause-below : goal.returns-clause-below
returns-clause-below c =
    let long : length (map (λ w. bit_at w c.args.bit == 1) c.args.weights.now) ≡ 52 = simp length-map (omega arith) in
    rw (returns-clause-value c) (rw long at (mask_l-lt (map (λ w. bit_at w c.args.bit == 1) c.args.weights.now)))
