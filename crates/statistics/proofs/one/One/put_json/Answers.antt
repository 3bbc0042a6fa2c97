use Rattle.std.proofs.Common.{◌++◌, List, ℕ, ap, codes, drop}
use Rattle.std.proofs.lemmas.Result.{MatchResult-from_err}
use Rattle.statistics.specs.internal.Items.{one_json, one_start, sums_kept, values_kept}
use Rattle.statistics.proofs.Parts.{three_at_first, three_at_second, three_parts}
use Rattle.statistics.proofs.one.One.put_json.Goals as goal

abbrev start_by : List ℕ → List ℕ
start_by string = codes "{\"of\":" ++ string ++ codes ",\"values\":["

pub returns-in_err-put_between-clause-bytes : goal.returns-in_err-put_between-clause-bytes
unfolding one_json
returns-in_err-put_between-clause-bytes g c =
    let broken = three_at_first (g.S.Sink.bytes c.args.sink.now) (g.S.Sink.bytes c.put_between.new.sink) (start_by c.string.result.now)
    (one_start c.args.self.now) (drop 1 (values_kept c.args.self.now)) (sums_kept c.args.self.now)
    (ap start_by c.string.ensures) c.in_err-put_between.ensures.bytes in
    MatchResult-from_err c.from_residual.result _ _ c.from_residual.ensures.0 (λ _. broken)

pub returns-in_err-put_values-clause-bytes : goal.returns-in_err-put_values-clause-bytes
unfolding one_json
returns-in_err-put_values-clause-bytes g c =
    let broken = three_at_second (g.S.Sink.bytes c.args.sink.now) (g.S.Sink.bytes c.put_between.new.sink)
    (g.S.Sink.bytes c.put_values.new.sink) (start_by c.string.result.now)
    (one_start c.args.self.now) (drop 1 (values_kept c.args.self.now)) (sums_kept c.args.self.now)
    (ap start_by c.string.ensures) c.in_ok-put_between.ensures.bytes c.in_err-put_values.ensures.bytes in
    MatchResult-from_err c.from_residual-in_err-put_values.result _ _ c.from_residual-in_err-put_values.ensures.0 (λ _. broken)

pub returns-clause-bytes : goal.returns-clause-bytes
unfolding one_json
returns-clause-bytes g c =
    three_parts c.put_piece.result (g.S.Sink.bytes c.args.sink.now) (g.S.Sink.bytes c.put_between.new.sink)
    (g.S.Sink.bytes c.put_values.new.sink) (g.S.Sink.bytes c.put_piece.new.sink)
    (start_by c.string.result.now) c.json_sums.result (one_start c.args.self.now)
    (drop 1 (values_kept c.args.self.now)) (sums_kept c.args.self.now) (ap start_by c.string.ensures)
    c.json_sums.ensures
    c.in_ok-put_between.ensures.bytes c.in_ok-put_values.ensures.bytes c.put_piece.ensures.bytes
