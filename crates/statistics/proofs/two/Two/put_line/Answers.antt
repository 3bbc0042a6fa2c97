use Rattle.std.specs.List.{flat_map}
use Rattle.std.proofs.lemmas.Result.{MatchResult-from_err}
use Rattle.statistics.specs.internal.Lines.{cell_piece, end_piece, line_text, start_piece}
use Rattle.statistics.specs.internal.PageLines.{columns_of_two}
use Rattle.statistics.specs.internal.Texts.{numbers_in}
use Rattle.statistics.proofs.Parts.{three_at_first, three_at_second, three_parts}
use Rattle.statistics.proofs.two.Two.put_line.Goals as goal

pub returns-in_err-put_piece-clause-bytes : goal.returns-in_err-put_piece-clause-bytes
unfolding line_text
returns-in_err-put_piece-clause-bytes g c =
    let broken = three_at_first (g.S.Sink.bytes c.args.sink.now) (g.S.Sink.bytes c.put_piece.new.sink) c.start_piece.result
    (start_piece c.args.self.now c.args.line) (flat_map (cell_piece c.args.self.now c.args.line)
    (numbers_in (columns_of_two c.args.self.now))) (end_piece c.args.self.now c.args.line)
    c.start_piece.ensures c.in_err-put_piece.ensures.bytes in
    MatchResult-from_err c.from_residual.result _ _ c.from_residual.ensures.0 (λ _. broken)

pub returns-in_err-put_cells-clause-bytes : goal.returns-in_err-put_cells-clause-bytes
unfolding line_text
returns-in_err-put_cells-clause-bytes g c =
    let broken = three_at_second (g.S.Sink.bytes c.args.sink.now) (g.S.Sink.bytes c.put_piece.new.sink)
    (g.S.Sink.bytes c.put_cells.new.sink) c.start_piece.result
    (start_piece c.args.self.now c.args.line) (flat_map (cell_piece c.args.self.now c.args.line)
    (numbers_in (columns_of_two c.args.self.now))) (end_piece c.args.self.now c.args.line)
    c.start_piece.ensures c.in_ok-put_piece.ensures.bytes c.in_err-put_cells.ensures.bytes in
    MatchResult-from_err c.from_residual-in_err-put_cells.result _ _ c.from_residual-in_err-put_cells.ensures.0 (λ _. broken)

pub returns-clause-bytes : goal.returns-clause-bytes
unfolding line_text
returns-clause-bytes g c =
    three_parts c.put_piece-2.result (g.S.Sink.bytes c.args.sink.now) (g.S.Sink.bytes c.put_piece.new.sink)
    (g.S.Sink.bytes c.put_cells.new.sink) (g.S.Sink.bytes c.put_piece-2.new.sink)
    c.start_piece.result c.end_piece.result
    (start_piece c.args.self.now c.args.line) (flat_map (cell_piece c.args.self.now c.args.line)
    (numbers_in (columns_of_two c.args.self.now))) (end_piece c.args.self.now c.args.line)
    c.start_piece.ensures c.end_piece.ensures c.in_ok-put_piece.ensures.bytes c.in_ok-put_cells.ensures.bytes c.put_piece-2.ensures.bytes
