use Rattle.std.proofs.lemmas.Result.{err_from_is_err_and}
use Rattle.requests.specs.Requests.{look_of, search_of}
use Rattle.jobs.proofs.FirstDue.{make_refused}
use Rattle.jobs.proofs.job.boards_job.Goals as goal

pub returns-in_err-plan-clause-refused : goal.returns-in_err-plan-clause-refused
returns-in_err-plan-clause-refused c =
    let p = err_from_is_err_and c.from_residual.result c.from_residual.ensures.1 in
    rw (p.1, p.2) (make_refused (search_of c.args.search.now) (look_of c.args.look.now) c.args.tricks
    c.args.notices.now c.in_err-plan.field-0.0 c.in_err-plan.ensures.due)
