use Rattle.std.proofs.Common.{◌≡◌, ℕ, ◌+◌, ◌∙◌, None, ap, arith, get_or, sym}
use Rattle.std.specs.List.{sum_by, range_with_len}
use Rattle.cards.specs.Shuffle.{pack}
use Rattle.screens.proofs.Estimates.{one_more}
use Rattle.screens.specs.Held.{card_share, had}
use Rattle.screens.proofs.unmet.held.had.Goals as goal

pub loop-card-preserved : goal.loop-card-preserved
loop-card-preserved c =
    let share : ℕ → ℕ = λ k. card_share c.args.count k (get_or c.as_array-seats.result.now k None) c.args.free in
    record {
      so_far =
          ap (λ n. n + c.card_share-total.result) c.loop-card.invariant.so_far
          ∙ ap (λ n. sum_by share (range_with_len 0 c.loop-card.card) + n) c.card_share-total.ensures.value
          ∙ sym (one_more share c.loop-card.card);
      most = omega (arith, c.loop-card.invariant.most, c.card_share-total.ensures.few);
    }

pub returns-clause-value : goal.returns-clause-value
unfolding had pack
returns-clause-value c =
    let end : c.loop-card.card ≡ 52 = omega arith in
    c.loop-card.invariant.so_far
    ∙ ap (λ xs. sum_by (λ k. card_share c.args.count k (get_or xs k None) c.args.free)
    (range_with_len 0 c.loop-card.card)) c.as_array-seats.ensures.seats
    ∙ ap (λ n. sum_by (λ k. card_share c.args.count k (get_or c.args.fixed.now k None) c.args.free) (range_with_len 0 n)) end
