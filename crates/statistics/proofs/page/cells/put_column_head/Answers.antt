-- The pieces in a row.
use Rattle.std.proofs.Common.{append_assoc}
use Rattle.statistics.proofs.page.cells.put_column_head.Goals as goal

pub returns-clause-text : goal.returns-clause-text
returns-clause-text c = rw (c.put-3.ensures.text, c.put-2.ensures.text, c.put.ensures.text) (simp append_assoc)
