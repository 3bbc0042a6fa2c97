use Rattle.std.proofs.Common.{append_assoc}
use Rattle.statistics.specs.Page.{page_head}
use Rattle.statistics.proofs.page.header.put_page_head.Goals as goal

pub returns : goal.returns
unfolding page_head
returns c =
    rw (
      c.put-2.ensures.text,
      c.put_sentence.ensures.text,
      c.put.ensures.text,
      c.put_body_start.ensures.text,
      c.put_style.ensures.text,
      c.put_html_start.ensures.text,
    ) (simp append_assoc)
