use Rattle.std.proofs.Common.{ℕ, List, drop}
use Rattle.std.proofs.lemmas.Result.{MatchResult-from_err, MatchResult-weaker}
use Rattle.std.specs.List.{flat_map}
use Rattle.cond_lang.specs.declared.language.TheConstants.{LANGUAGE}
use Rattle.boards.proofs.Saying.{first_broken, second_broken, third_broken, three_parts}
use Rattle.deals_cli.proofs.service.put_language.Goals as goal

-- the parts of the page from the n-th on
abbrev parts_from : ℕ → List ℕ
parts_from n = flat_map (λ part. part.now) (drop n LANGUAGE)

pub returns-in_err-put_all-clause-bytes : goal.returns-in_err-put_all-clause-bytes
returns-in_err-put_all-clause-bytes g c =
    let broken = first_broken (g.O.Sink.bytes c.args.out.now) (g.O.Sink.bytes c.put_all.new.sink) _ _ (parts_from 1)
    c.as_bytes.ensures.value c.in_err-put_all.ensures.bytes in
    MatchResult-from_err c.from_residual.result _ _ c.from_residual.ensures.0 (λ _. broken)

pub returns-in_err-put_all-2-clause-bytes : goal.returns-in_err-put_all-2-clause-bytes
returns-in_err-put_all-2-clause-bytes g c =
    let broken =
    second_broken (g.O.Sink.bytes c.args.out.now) (g.O.Sink.bytes c.put_all.new.sink) (g.O.Sink.bytes c.put_all-2.new.sink)
    _ _ _ _ (parts_from 2) c.as_bytes.ensures.value c.as_bytes-2.ensures.value c.in_ok-put_all.ensures.bytes c.in_err-put_all-2.ensures.bytes in
    MatchResult-from_err c.from_residual-in_err-put_all-2.result _ _ c.from_residual-in_err-put_all-2.ensures.0 (λ _. broken)

pub returns-clause-bytes : goal.returns-clause-bytes
returns-clause-bytes g c =
    MatchResult-weaker c.put_all-3.result c.put_all-3.ensures.bytes
    (λ _ at. three_parts (g.O.Sink.bytes c.args.out.now) (g.O.Sink.bytes c.put_all.new.sink)
    (g.O.Sink.bytes c.put_all-2.new.sink) (g.O.Sink.bytes c.put_all-3.new.sink)
    _ _ _ _ _ _ c.as_bytes.ensures.value c.as_bytes-2.ensures.value c.as_bytes-3.ensures.value
    c.in_ok-put_all.ensures.bytes c.in_ok-put_all-2.ensures.bytes at)
    (λ _ part. third_broken (g.O.Sink.bytes c.args.out.now) (g.O.Sink.bytes c.put_all.new.sink)
    (g.O.Sink.bytes c.put_all-2.new.sink) (g.O.Sink.bytes c.put_all-3.new.sink)
    _ _ _ _ _ _ c.as_bytes.ensures.value c.as_bytes-2.ensures.value c.as_bytes-3.ensures.value
    c.in_ok-put_all.ensures.bytes c.in_ok-put_all-2.ensures.bytes part)
