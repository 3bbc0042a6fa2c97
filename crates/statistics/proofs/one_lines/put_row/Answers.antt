-- The pieces in a row.
use Rattle.std.proofs.Common.{append_assoc}
use Rattle.statistics.proofs.one_lines.put_row.Goals as goal

pub returns-clause-text : goal.returns-clause-text
returns-clause-text c =
    rw (
      c.put-3.ensures.text,
      c.put_bar.ensures.text,
      c.put_share.ensures.text,
      c.put-2.ensures.text,
      c.put_deals.ensures.text,
      c.put.ensures.text,
      c.put_answer.ensures.text,
    ) (simp append_assoc)
