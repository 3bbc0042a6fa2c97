use Rattle.std.proofs.Common.{◌≡◌, ◌∙◌, arith, rules, get_or, max, ap, sym, ℕ}
use Rattle.statistics.proofs.Most.{most_more}
use Rattle.statistics.proofs.rows.most_of.Goals as goal

pub loop-number-preserved : goal.loop-number-preserved
loop-number-preserved c =
    let count : ℕ = get_or c.args.counts.now c.loop-number.number 0 in
    let step : c.max-most.result ≡ max c.loop-number.most (get_or c.args.counts.now c.loop-number.number 0) = search rules in
    record {
      most = step ∙ ap (λ (m : ℕ). max m (get_or c.args.counts.now c.loop-number.number 0)) c.loop-number.invariant.most
          ∙ sym (most_more (λ (n : ℕ). get_or c.args.counts.now n 0) c.args.rows.first c.loop-number.number c.loop-number.invariant.first);
      first = omega arith;
      within = omega (arith, c.loop-number-test.true);
    }
