use Rattle.std.proofs.Common.{◌≡◌, ◌∙◌, arith, rules, max, ap, sym, ℕ}
use Rattle.statistics.specs.internal.PageLines.{most_in_row}
use Rattle.statistics.specs.internal.Texts.{rows_of_one}
use Rattle.statistics.proofs.Most.{most_more}
use Rattle.statistics.proofs.two.Two.most_cell.Goals as goal

pub loop-number-preserved : goal.loop-number-preserved
loop-number-preserved c =
    let step : c.max-most.result ≡ max c.loop-number.most (most_in_row c.args.self.now c.loop-number.number) = search rules in
    record {
      most = step ∙ ap (λ (m : ℕ). max m (most_in_row c.args.self.now c.loop-number.number)) c.loop-number.invariant.most
          ∙ sym (most_more (λ (n : ℕ). most_in_row c.args.self.now n) (rows_of_one c.args.self.now.of).first
          c.loop-number.number c.loop-number.invariant.first);
      first = omega arith;
      end = c.loop-number.invariant.end;
      counts = c.loop-number.invariant.counts;
      within = omega (arith, c.loop-number.invariant.end, c.loop-number-test.true);
    }
