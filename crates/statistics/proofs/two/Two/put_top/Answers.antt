use Rattle.std.proofs.Common.{subst, sym}
use Rattle.std.proofs.lemmas.Result.{MatchResult-from_err}
use Rattle.sinks.specs.Appended.{AppendsAll, AppendsPart}
use Rattle.sinks.specs.Sinks.{AppendsOrBreaksOff}
use Rattle.statistics.specs.declared.line_style.LineStyle.{LineStyle}
use Rattle.statistics.specs.declared.two.table.Line.TheVariants.{Header}
use Rattle.statistics.specs.internal.Lines.{line_text, title_line, top_kept}
use Rattle.statistics.proofs.Parts.{part_more, then_either}
use Rattle.statistics.proofs.two.Two.put_top.Goals as goal

pub returns-in_err-put_piece-in-Table-clause-bytes : goal.returns-in_err-put_piece-in-Table-clause-bytes
unfolding top_kept
returns-in_err-put_piece-in-Table-clause-bytes g c =
    let broken = part_more (g.S.Sink.bytes c.args.sink.now) (g.S.Sink.bytes c.put_piece.new.sink)
    (title_line c.args.self.now) (line_text c.args.self.now Header)
    (subst (AppendsPart (g.S.Sink.bytes c.args.sink.now) (g.S.Sink.bytes c.put_piece.new.sink)) c.title_line.ensures
    c.in_err-put_piece-in-Table.ensures.bytes) in
    subst (λ (style : LineStyle). AppendsOrBreaksOff (g.S.Sink.bytes c.args.sink.now)
    (g.S.Sink.bytes c.put_piece.new.sink) c.from_residual.result (top_kept c.args.self.now style))
    (sym c.in-Table.is)
    (MatchResult-from_err c.from_residual.result _ _ c.from_residual.ensures.0 (λ _. broken))

pub returns-in_ok-put_piece-in-Table-clause-bytes : goal.returns-in_ok-put_piece-in-Table-clause-bytes
unfolding top_kept
returns-in_ok-put_piece-in-Table-clause-bytes g c =
    subst (λ (style : LineStyle). AppendsOrBreaksOff (g.S.Sink.bytes c.args.sink.now)
    (g.S.Sink.bytes c.put_line.new.sink) c.put_line.result (top_kept c.args.self.now style)) (sym c.in-Table.is)
    (then_either c.put_line.result (g.S.Sink.bytes c.args.sink.now) (g.S.Sink.bytes c.put_piece.new.sink)
    (g.S.Sink.bytes c.put_line.new.sink) (title_line c.args.self.now) (line_text c.args.self.now Header)
    (subst (AppendsAll (g.S.Sink.bytes c.args.sink.now) (g.S.Sink.bytes c.put_piece.new.sink)) c.title_line.ensures
    c.in_ok-put_piece-in-Table.ensures.bytes) c.put_line.ensures.bytes)
