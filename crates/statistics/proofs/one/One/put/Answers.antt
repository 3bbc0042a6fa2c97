use Rattle.std.specs.List.{flat_map}
use Rattle.std.proofs.lemmas.Result.{MatchResult-from_err}
use Rattle.statistics.specs.internal.Texts.{numbers_in, one_head, one_row, one_tail, one_text, rows_of_one}
use Rattle.statistics.proofs.Parts.{three_at_first, three_at_second, three_parts}
use Rattle.statistics.proofs.one.One.put.Goals as goal

pub returns-in_err-put_piece-clause-bytes : goal.returns-in_err-put_piece-clause-bytes
unfolding one_text
returns-in_err-put_piece-clause-bytes g c =
    let broken = three_at_first (g.S.Sink.bytes c.args.sink.now) (g.S.Sink.bytes c.put_piece.new.sink) c.head.result
    (one_head c.args.style c.args.widths c.args.self.now)
    (flat_map (one_row c.args.style c.args.widths c.args.self.now) (numbers_in (rows_of_one c.args.self.now)))
    (one_tail c.args.style c.args.self.now)
    c.head.ensures c.in_err-put_piece.ensures.bytes in
    MatchResult-from_err c.from_residual.result _ _ c.from_residual.ensures.0 (λ _. broken)

pub returns-in_err-put_rows-clause-bytes : goal.returns-in_err-put_rows-clause-bytes
unfolding one_text
returns-in_err-put_rows-clause-bytes g c =
    let broken = three_at_second (g.S.Sink.bytes c.args.sink.now) (g.S.Sink.bytes c.put_piece.new.sink)
    (g.S.Sink.bytes c.put_rows.new.sink) c.head.result
    (one_head c.args.style c.args.widths c.args.self.now)
    (flat_map (one_row c.args.style c.args.widths c.args.self.now) (numbers_in (rows_of_one c.args.self.now)))
    (one_tail c.args.style c.args.self.now)
    c.head.ensures c.in_ok-put_piece.ensures.bytes c.in_err-put_rows.ensures.bytes in
    MatchResult-from_err c.from_residual-in_err-put_rows.result _ _ c.from_residual-in_err-put_rows.ensures.0 (λ _. broken)

pub returns-clause-bytes : goal.returns-clause-bytes
unfolding one_text
returns-clause-bytes g c =
    three_parts c.put_piece-2.result (g.S.Sink.bytes c.args.sink.now) (g.S.Sink.bytes c.put_piece.new.sink)
    (g.S.Sink.bytes c.put_rows.new.sink) (g.S.Sink.bytes c.put_piece-2.new.sink)
    c.head.result c.tail.result
    (one_head c.args.style c.args.widths c.args.self.now)
    (flat_map (one_row c.args.style c.args.widths c.args.self.now) (numbers_in (rows_of_one c.args.self.now)))
    (one_tail c.args.style c.args.self.now)
    c.head.ensures c.tail.ensures c.in_ok-put_piece.ensures.bytes c.in_ok-put_rows.ensures.bytes c.put_piece-2.ensures.bytes
