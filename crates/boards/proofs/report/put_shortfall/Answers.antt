use Rattle.std.proofs.Common.{◌∙◌, ◌++◌, ap, arith, codes, decimal}
use Rattle.boards.specs.Reports.{shortfall}
use Rattle.boards.proofs.Saying.{fewer, ok_as_text}
use Rattle.boards.proofs.report.put_shortfall.Goals as goal

pub returns-in-Some-clause-text : goal.returns-in-Some-clause-text
returns-in-Some-clause-text g c =
    ok_as_text c.print.result (g.E.Sink.bytes c.args.err.now) (g.E.Sink.bytes c.print.new.err) _ (shortfall c.args.asked c.args.boards)
    (c.with.ensures ∙ ap (λ n. codes ", fewer than the " ++ decimal n ++ codes " asked for") c.from-in-Some.ensures
    ∙ fewer c.args.asked c.in-Some.most c.args.boards c.in-Some.is (omega (arith, c.if-boards-from.true, c.from.ensures)))
    c.print.ensures.text
