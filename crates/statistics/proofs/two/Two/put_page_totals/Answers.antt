use Rattle.std.proofs.Common.{codes, refl}
use Rattle.std.proofs.lemmas.Result.{MatchResult-from_err}
use Rattle.statistics.specs.declared.two.page.PageLine.TheVariants.{Means, Totals}
use Rattle.statistics.specs.declared.two.table.Line.TheVariants.{Page}
use Rattle.statistics.specs.internal.Lines.{bottom_kept, totals_kept}
use Rattle.statistics.proofs.Parts.{three_at_first, three_at_second, three_parts}
use Rattle.statistics.proofs.two.Two.put_page_totals.Goals as goal

pub returns-in_err-put_all-clause-bytes : goal.returns-in_err-put_all-clause-bytes
unfolding bottom_kept
returns-in_err-put_all-clause-bytes g c =
    let broken = three_at_first (g.S.Sink.bytes c.args.sink.now) (g.S.Sink.bytes c.put_all.new.sink) (codes "</tbody>\n<tfoot>\n")
    (codes "</tbody>\n<tfoot>\n") (totals_kept c.args.self.now (Page Totals) (Page Means)) (codes "</tfoot>\n</table>\n</div>\n") refl c.in_err-put_all.ensures.bytes in
    MatchResult-from_err c.from_residual.result _ _ c.from_residual.ensures.0 (λ _. broken)

pub returns-in_err-put_totals-clause-bytes : goal.returns-in_err-put_totals-clause-bytes
unfolding bottom_kept
returns-in_err-put_totals-clause-bytes g c =
    let broken = three_at_second (g.S.Sink.bytes c.args.sink.now) (g.S.Sink.bytes c.put_all.new.sink)
    (g.S.Sink.bytes c.put_totals.new.sink) (codes "</tbody>\n<tfoot>\n")
    (codes "</tbody>\n<tfoot>\n") (totals_kept c.args.self.now (Page Totals) (Page Means)) (codes "</tfoot>\n</table>\n</div>\n") refl
    c.in_ok-put_all.ensures.bytes c.in_err-put_totals.ensures.bytes in
    MatchResult-from_err c.from_residual-in_err-put_totals.result _ _ c.from_residual-in_err-put_totals.ensures.0 (λ _. broken)

pub returns-clause-bytes : goal.returns-clause-bytes
unfolding bottom_kept
returns-clause-bytes g c =
    three_parts c.put_all-2.result (g.S.Sink.bytes c.args.sink.now) (g.S.Sink.bytes c.put_all.new.sink)
    (g.S.Sink.bytes c.put_totals.new.sink) (g.S.Sink.bytes c.put_all-2.new.sink)
    (codes "</tbody>\n<tfoot>\n") (codes "</tfoot>\n</table>\n</div>\n") (codes "</tbody>\n<tfoot>\n")
    (totals_kept c.args.self.now (Page Totals) (Page Means)) (codes "</tfoot>\n</table>\n</div>\n")
    refl refl c.in_ok-put_all.ensures.bytes c.in_ok-put_totals.ensures.bytes c.put_all-2.ensures.bytes
