use Rattle.std.proofs.Common.{◌∙◌, ◌∷◌, [], decimal}
use Rattle.std.proofs.lemmas.Result.{MatchResult-from_err}
use Rattle.boards.proofs.Saying.{first_broken}
use Rattle.deals_cli.proofs.seed_job.put_seed.Goals as goal

pub returns-in_err-put_all-clause-bytes : goal.returns-in_err-put_all-clause-bytes
returns-in_err-put_all-clause-bytes g c =
    let broken = first_broken (g.O.Sink.bytes c.args.out.now) (g.O.Sink.bytes c.put_all.new.sink)
    c.as_bytes.result.now (decimal c.args.seed) (10 ∷ []) (c.as_bytes.ensures.value ∙ c.format.ensures.text)
    c.in_err-put_all.ensures.bytes in
    MatchResult-from_err c.from_residual.result _ _ c.from_residual.ensures.0 (λ _. broken)
