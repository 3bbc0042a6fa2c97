use Rattle.std.proofs.lemmas.Result.{err_from_is_err_and}
use Rattle.requests.specs.Requests.{look_of, plain_search}
use Rattle.jobs.proofs.FirstDue.{show_refused}
use Rattle.jobs.proofs.job.show_job.Goals as goal

pub returns-in_err-heading-clause-refused : goal.returns-in_err-heading-clause-refused
returns-in_err-heading-clause-refused c hints =
    let p = err_from_is_err_and c.from_residual.result c.from_residual.ensures.1 in
    let e = c.in_err-heading in
    rw (p.1, p.2) (show_refused (look_of c.args.look.now) hints e.field-0.0 (e.ensures.due (plain_search 0)))
