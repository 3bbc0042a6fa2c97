-- The pieces in a row.
use Rattle.std.proofs.Common.{append_assoc}
use Rattle.statistics.specs.Csv.{csv_total}
use Rattle.statistics.proofs.csv_lines.put_total.Goals as goal

pub returns-clause-text : goal.returns-clause-text
unfolding csv_total
returns-clause-text c =
    rw (c.put-3.ensures.text, c.put_number-2.ensures.text, c.put-2.ensures.text, c.put_number.ensures.text, c.put.ensures.text) (simp append_assoc)
