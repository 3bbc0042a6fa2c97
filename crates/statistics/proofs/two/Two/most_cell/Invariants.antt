-- The most so far.
use Rattle.std.proofs.Common.{◌≡◌, ◌≤◌, ◌-◌, fold, length, map, max}
use Rattle.std.specs.List.{range_with_len}
use Rattle.statistics.specs.internal.PageLines.{most_in_row}
use Rattle.statistics.specs.internal.Texts.{rows_of_one}
use Rattle.statistics.proofs.two.Two.most_cell.Given as goal

abbrev pub invariant-loop-number : goal.invariant-loop-number
invariant-loop-number l = record {
  most : l.most ≡ fold max 0 (map (λ n. most_in_row l.self n)
      (range_with_len (rows_of_one l.self.of).first (l.number - (rows_of_one l.self.of).first)));
  first : (rows_of_one l.self.of).first ≤ l.number;
  end : l.number-end ≡ (rows_of_one l.self.of).end;
  counts : l.number-end ≤ length l.self.of.counts;
  within : l.number - (rows_of_one l.self.of).first ≤ (rows_of_one l.self.of).end - (rows_of_one l.self.of).first;
}
