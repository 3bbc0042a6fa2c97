-- The pieces in a row.
use Rattle.std.proofs.Common.{◌*◌, codes}
use Rattle.statistics.specs.Columns.{commas, label}
use Rattle.statistics.specs.Page.{page_bar, page_row}
use Rattle.statistics.specs.Rounded.{fraction}
use Rattle.statistics.proofs.Paging.{nine_put}
use Rattle.statistics.proofs.page.rows.put_page_row.Goals as goal

pub returns-clause-text : goal.returns-clause-text
unfolding page_row
returns-clause-text c =
    let s = c.args.shown.now in
    rw (
      c.put-5.ensures.text,
      c.put_page_bar.ensures.text,
      c.put-4.ensures.text,
      c.put_per_cent.ensures.text,
      c.put-3.ensures.text,
      c.put_commas.ensures.text,
      c.put-2.ensures.text,
      c.put_label.ensures.text,
      c.put.ensures.text,
    )
    (nine_put c.args.text.now (codes "<tr><th scope=\"row\">") (label s.is_condition s.number) (codes "</th><td>") (commas s.count)
    (codes "</td><td>") (fraction 2 (100 * s.count) s.all) (codes "</td><td class=\"bar\">") (page_bar s.count s.most) (codes "</td></tr>\n"))
