-- The pieces in a row.
use Rattle.std.proofs.Common.{◌++◌, ◌∙◌, codes, ap, sym}
use Rattle.statistics.specs.Columns.{commas}
use Rattle.statistics.specs.Rounded.{fraction}
use Rattle.statistics.proofs.Paging.{five_put, shaded_some}
use Rattle.statistics.proofs.page.cells.put_shaded.Goals as goal

pub returns-clause-text : goal.returns-clause-text
returns-clause-text c =
    let pieces = five_put c.args.text.now (codes "<td style=\"--share:") (fraction 2 c.args.count c.args.most)
    (codes "\">") (commas c.args.count) (codes "</td>") in
    rw (
      c.put-4.ensures.text,
      c.put_commas.ensures.text,
      c.put-3.ensures.text,
      c.put_fraction.ensures.text,
      c.from.ensures,
      c.from-2.ensures,
      c.put-2.ensures.text,
    )
    (pieces ∙ ap (λ xs. c.args.text.now ++ xs) (sym (shaded_some c.args.most c.args.count c.if-count-eq0.false)))
