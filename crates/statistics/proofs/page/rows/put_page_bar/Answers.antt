-- The pieces in a row.
use Rattle.std.proofs.Common.{◌*◌, ◌++◌, ◌∙◌, codes, ap, sym}
use Rattle.statistics.specs.Rounded.{fraction}
use Rattle.statistics.proofs.Paging.{page_bar_some, three_put}
use Rattle.statistics.proofs.page.rows.put_page_bar.Goals as goal

pub returns-clause-text : goal.returns-clause-text
returns-clause-text c =
    let pieces = three_put c.args.text.now (codes "<i style=\"width:") (fraction 2 (100 * c.args.count) c.args.most) (codes "%\"></i>") in
    rw (c.put-2.ensures.text, c.put_per_cent.ensures.text, c.put.ensures.text)
    (pieces ∙ ap (λ xs. c.args.text.now ++ xs) (sym (page_bar_some c.args.count c.args.most c.if-count-eq0.false)))
