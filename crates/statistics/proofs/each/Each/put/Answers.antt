use Rattle.std.proofs.Common.{◌≡◌, ◌∙◌, ℕ, ap, length, subst, sym}
use Rattle.std.proofs.lemmas.Result.{MatchResult-from_err}
use Rattle.sinks.specs.Appended.{AppendsAll, AppendsPart}
use Rattle.sinks.specs.Sinks.{AppendsOrBreaksOff}
use Rattle.boards.specs.declared.style.TableStyle.TheVariants.{Csv}
use Rattle.statistics.specs.declared.line_style.LineStyle.{LineStyle}
use Rattle.statistics.specs.Counting.{parts_text}
use Rattle.statistics.specs.Csv.{csv_counts}
use Rattle.statistics.specs.internal.Kept.{asked_each}
use Rattle.statistics.specs.internal.Parts.{each_text}
use Rattle.statistics.proofs.Parts.{part_more, then_either}
use Rattle.statistics.proofs.each.Each.put.Goals as goal

pub returns-in_err-put_piece-in-Csv-clause-bytes : goal.returns-in_err-put_piece-in-Csv-clause-bytes
returns-in_err-put_piece-in-Csv-clause-bytes g c deals h =
    let e : c.counts_text.result ≡ csv_counts (length deals) c.args.tried = c.counts_text.ensures
    ∙ ap (λ (n : ℕ). csv_counts n c.args.tried) (c.deals.ensures.value ∙ h.number) in
    let broken = part_more (g.S.Sink.bytes c.args.sink.now) (g.S.Sink.bytes c.put_piece.new.sink)
    (csv_counts (length deals) c.args.tried) (parts_text Csv (asked_each c.args.self.now) deals)
    (subst (AppendsPart (g.S.Sink.bytes c.args.sink.now) (g.S.Sink.bytes c.put_piece.new.sink)) e c.in_err-put_piece-in-Csv.ensures.bytes) in
    subst (λ (style : LineStyle). AppendsOrBreaksOff (g.S.Sink.bytes c.args.sink.now)
    (g.S.Sink.bytes c.put_piece.new.sink) c.from_residual.result
    (each_text style (asked_each c.args.self.now) deals c.args.tried)) (sym c.in-Csv.is)
    (MatchResult-from_err c.from_residual.result _ _ c.from_residual.ensures.0 (λ _. broken))

pub returns-in_ok-put_piece-in-Csv-clause-bytes : goal.returns-in_ok-put_piece-in-Csv-clause-bytes
returns-in_ok-put_piece-in-Csv-clause-bytes g c deals h =
    let e : c.counts_text.result ≡ csv_counts (length deals) c.args.tried = c.counts_text.ensures
    ∙ ap (λ (n : ℕ). csv_counts n c.args.tried) (c.deals.ensures.value ∙ h.number) in
    subst (λ (style : LineStyle). AppendsOrBreaksOff (g.S.Sink.bytes c.args.sink.now)
    (g.S.Sink.bytes c.put_parts-in-Csv.new.sink) c.put_parts-in-Csv.result
    (each_text style (asked_each c.args.self.now) deals c.args.tried)) (sym c.in-Csv.is)
    (then_either c.put_parts-in-Csv.result (g.S.Sink.bytes c.args.sink.now) (g.S.Sink.bytes c.put_piece.new.sink)
    (g.S.Sink.bytes c.put_parts-in-Csv.new.sink)
    (csv_counts (length deals) c.args.tried) (parts_text Csv (asked_each c.args.self.now) deals)
    (subst (AppendsAll (g.S.Sink.bytes c.args.sink.now) (g.S.Sink.bytes c.put_piece.new.sink)) e
    c.in_ok-put_piece-in-Csv.ensures.bytes) (c.put_parts-in-Csv.ensures.bytes deals h))
