use Rattle.std.proofs.Common.{◌≡◌, ◌∙◌, arith, rules, max, ap, sym, ℕ}
use Rattle.statistics.specs.internal.Kept.{cell_at}
use Rattle.statistics.specs.internal.PageLines.{columns_of_two}
use Rattle.statistics.proofs.Most.{most_more}
use Rattle.statistics.proofs.two.Two.most_in_row.Goals as goal

pub loop-column-preserved : goal.loop-column-preserved
loop-column-preserved c =
    let step : c.max-most.result ≡ max c.loop-column.most (cell_at c.args.self.now c.args.row c.loop-column.column) = search rules in
    record {
      most = step ∙ ap (λ (m : ℕ). max m (cell_at c.args.self.now c.args.row c.loop-column.column)) c.loop-column.invariant.most
          ∙ sym (most_more (λ (m : ℕ). cell_at c.args.self.now c.args.row m) (columns_of_two c.args.self.now).first
          c.loop-column.column c.loop-column.invariant.first);
      first = omega arith;
      end = c.loop-column.invariant.end;
      counts = c.loop-column.invariant.counts;
      within = omega (arith, c.loop-column.invariant.end, c.loop-column-test.true);
    }
