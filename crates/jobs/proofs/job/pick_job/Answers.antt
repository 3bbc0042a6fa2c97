use Rattle.std.proofs.lemmas.Result.{err_from_is_err_and}
use Rattle.requests.specs.PredealtHands.{given_by}
use Rattle.requests.specs.Requests.{look_of}
use Rattle.jobs.proofs.FirstDue.{pick_refused}
use Rattle.jobs.proofs.job.pick_job.Goals as goal

pub returns-in_err-plan-clause-refused : goal.returns-in_err-plan-clause-refused
returns-in_err-plan-clause-refused c hints =
    let p = err_from_is_err_and c.from_residual.result c.from_residual.ensures.1 in
    let due = rw c.none.ensures at c.in_err-plan.ensures.due in
    rw (p.1, p.2) (pick_refused c.args.seed (given_by c.args.hands.now) (look_of c.args.look.now) c.args.tricks hints
    c.in_err-plan.field-0.0 due)
