use Rattle.std.proofs.Common.{refl}
use Rattle.std.specs.List.{flat_map}
use Rattle.std.proofs.lemmas.Result.{MatchResult-from_err}
use Rattle.statistics.specs.internal.Lines.{bottom_kept, top_kept, two_row, two_text}
use Rattle.statistics.specs.internal.Texts.{numbers_in, rows_of_one}
use Rattle.statistics.proofs.Parts.{three_at_first, three_at_second, three_parts}
use Rattle.statistics.proofs.two.Two.put.Goals as goal

pub returns-in_err-put_top-clause-bytes : goal.returns-in_err-put_top-clause-bytes
unfolding two_text
returns-in_err-put_top-clause-bytes g c =
    let broken = three_at_first (g.S.Sink.bytes c.args.sink.now) (g.S.Sink.bytes c.put_top.new.sink) (top_kept c.args.self.now c.args.style)
    (top_kept c.args.self.now c.args.style) (flat_map (two_row c.args.self.now c.args.style)
    (numbers_in (rows_of_one c.args.self.now.of))) (bottom_kept c.args.self.now c.args.style)
    refl c.in_err-put_top.ensures.bytes in
    MatchResult-from_err c.from_residual.result _ _ c.from_residual.ensures.0 (λ _. broken)

pub returns-in_err-put_rows-clause-bytes : goal.returns-in_err-put_rows-clause-bytes
unfolding two_text
returns-in_err-put_rows-clause-bytes g c =
    let broken = three_at_second (g.S.Sink.bytes c.args.sink.now) (g.S.Sink.bytes c.put_top.new.sink)
    (g.S.Sink.bytes c.put_rows.new.sink) (top_kept c.args.self.now c.args.style)
    (top_kept c.args.self.now c.args.style) (flat_map (two_row c.args.self.now c.args.style)
    (numbers_in (rows_of_one c.args.self.now.of))) (bottom_kept c.args.self.now c.args.style)
    refl c.in_ok-put_top.ensures.bytes c.in_err-put_rows.ensures.bytes in
    MatchResult-from_err c.from_residual-in_err-put_rows.result _ _ c.from_residual-in_err-put_rows.ensures.0 (λ _. broken)

pub returns-clause-bytes : goal.returns-clause-bytes
unfolding two_text
returns-clause-bytes g c =
    three_parts c.put_bottom.result (g.S.Sink.bytes c.args.sink.now) (g.S.Sink.bytes c.put_top.new.sink)
    (g.S.Sink.bytes c.put_rows.new.sink) (g.S.Sink.bytes c.put_bottom.new.sink)
    (top_kept c.args.self.now c.args.style) (bottom_kept c.args.self.now c.args.style)
    (top_kept c.args.self.now c.args.style) (flat_map (two_row c.args.self.now c.args.style)
    (numbers_in (rows_of_one c.args.self.now.of))) (bottom_kept c.args.self.now c.args.style)
    refl refl c.in_ok-put_top.ensures.bytes c.in_ok-put_rows.ensures.bytes c.put_bottom.ensures.bytes
