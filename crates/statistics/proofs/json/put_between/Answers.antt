use Rattle.std.proofs.Common.{refl}
use Rattle.std.proofs.lemmas.Result.{MatchResult-from_err}
use Rattle.statistics.proofs.Parts.{three_at_first, three_at_second, three_parts}
use Rattle.statistics.proofs.json.put_between.Goals as goal

pub returns-in_err-put_all-clause-bytes : goal.returns-in_err-put_all-clause-bytes
returns-in_err-put_all-clause-bytes g c =
    let broken = three_at_first (g.S.Sink.bytes c.args.sink.now) (g.S.Sink.bytes c.put_all.new.sink) c.args.before.now
    c.args.before.now c.args.text.now c.args.last.now refl c.in_err-put_all.ensures.bytes in
    MatchResult-from_err c.from_residual.result _ _ c.from_residual.ensures.0 (λ _. broken)

pub returns-in_err-put_all-2-clause-bytes : goal.returns-in_err-put_all-2-clause-bytes
returns-in_err-put_all-2-clause-bytes g c =
    let broken = three_at_second (g.S.Sink.bytes c.args.sink.now) (g.S.Sink.bytes c.put_all.new.sink)
    (g.S.Sink.bytes c.put_all-2.new.sink) c.args.before.now
    c.args.before.now c.args.text.now c.args.last.now refl c.in_ok-put_all.ensures.bytes c.in_err-put_all-2.ensures.bytes in
    MatchResult-from_err c.from_residual-in_err-put_all-2.result _ _ c.from_residual-in_err-put_all-2.ensures.0 (λ _. broken)

pub returns-clause-bytes : goal.returns-clause-bytes
returns-clause-bytes g c =
    three_parts c.put_all-3.result (g.S.Sink.bytes c.args.sink.now) (g.S.Sink.bytes c.put_all.new.sink)
    (g.S.Sink.bytes c.put_all-2.new.sink) (g.S.Sink.bytes c.put_all-3.new.sink)
    c.args.before.now c.args.last.now c.args.before.now c.args.text.now c.args.last.now refl refl
    c.in_ok-put_all.ensures.bytes c.in_ok-put_all-2.ensures.bytes c.put_all-3.ensures.bytes
