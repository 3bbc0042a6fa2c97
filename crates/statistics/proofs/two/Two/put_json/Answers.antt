use Rattle.std.proofs.Common.{codes, drop, refl}
use Rattle.std.proofs.lemmas.Result.{MatchResult-from_err}
use Rattle.statistics.specs.internal.Items.{pairs_kept, two_json, two_start}
use Rattle.statistics.proofs.Parts.{three_at_first, three_at_second, three_parts}
use Rattle.statistics.proofs.two.Two.put_json.Goals as goal

pub returns-in_err-put_texts-clause-bytes : goal.returns-in_err-put_texts-clause-bytes
unfolding two_json
returns-in_err-put_texts-clause-bytes g c =
    let broken = three_at_first (g.S.Sink.bytes c.args.sink.now) (g.S.Sink.bytes c.put_texts.new.sink) (two_start c.args.self.now)
    (two_start c.args.self.now) (drop 1 (pairs_kept c.args.self.now)) (codes "]}") refl c.in_err-put_texts.ensures.bytes in
    MatchResult-from_err c.from_residual.result _ _ c.from_residual.ensures.0 (λ _. broken)

pub returns-in_err-put_pairs-clause-bytes : goal.returns-in_err-put_pairs-clause-bytes
unfolding two_json
returns-in_err-put_pairs-clause-bytes g c =
    let broken = three_at_second (g.S.Sink.bytes c.args.sink.now) (g.S.Sink.bytes c.put_texts.new.sink)
    (g.S.Sink.bytes c.put_pairs.new.sink) (two_start c.args.self.now)
    (two_start c.args.self.now) (drop 1 (pairs_kept c.args.self.now)) (codes "]}") refl
    c.in_ok-put_texts.ensures.bytes c.in_err-put_pairs.ensures.bytes in
    MatchResult-from_err c.from_residual-in_err-put_pairs.result _ _ c.from_residual-in_err-put_pairs.ensures.0 (λ _. broken)

pub returns-clause-bytes : goal.returns-clause-bytes
unfolding two_json
returns-clause-bytes g c =
    three_parts c.put_all.result (g.S.Sink.bytes c.args.sink.now) (g.S.Sink.bytes c.put_texts.new.sink)
    (g.S.Sink.bytes c.put_pairs.new.sink) (g.S.Sink.bytes c.put_all.new.sink)
    (two_start c.args.self.now) (codes "]}") (two_start c.args.self.now) (drop 1 (pairs_kept c.args.self.now)) (codes "]}") refl refl
    c.in_ok-put_texts.ensures.bytes c.in_ok-put_pairs.ensures.bytes c.put_all.ensures.bytes
