use Rattle.std.proofs.Common.{◌≡◌, ℕ, ◌+◌, ◌∙◌, ap, arith, get_or, sym}
use Rattle.std.specs.List.{sum_by, range_with_len}
use Rattle.cards.specs.Shuffle.{pack}
use Rattle.screens.proofs.Estimates.{one_more}
use Rattle.screens.proofs.estimate.total_of.Goals as goal

pub loop-card-preserved : goal.loop-card-preserved
loop-card-preserved c =
    let weight : ℕ → ℕ = λ card. get_or c.args.weights.now card 0 in
    record {
      so_far = ap (λ n. n + weight c.loop-card.card) c.loop-card.invariant.so_far ∙ sym (one_more weight c.loop-card.card);
      most = omega (arith, c.loop-card.invariant.most, c.requires c.loop-card.card (omega arith));
    }

pub returns-clause-value : goal.returns-clause-value
unfolding pack
returns-clause-value c =
    let end : c.loop-card.card ≡ 52 = omega arith in
    c.loop-card.invariant.so_far ∙ ap (λ n. sum_by (λ card. get_or c.args.weights.now card 0) (range_with_len 0 n)) end
