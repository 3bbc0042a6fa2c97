use Rattle.std.proofs.lemmas.Result.{err_from_is_err_and}
use Rattle.requests.specs.Requests.{questions_of, search_of}
use Rattle.jobs.proofs.FirstDue.{count_refused, questions_refused}
use Rattle.jobs.proofs.job.count_job.Goals as goal

pub returns-in_err-subject-clause-refused : goal.returns-in_err-subject-clause-refused
returns-in_err-subject-clause-refused c notices =
    let p = err_from_is_err_and c.from_residual-in_err-subject.result c.from_residual-in_err-subject.ensures.1 in
    let plan = rw c.plain.ensures at c.in_ok-plan.ensures.sound in
    let e = c.in_err-subject.ensures in
    rw (p.1, p.2) (questions_refused (search_of c.args.search.now) (questions_of c.args.questions.now) c.args.style
    notices c.in_err-subject.field-0.0 plan
    c.in_ok-condition.condition c.in_ok-condition.ensures.meant e.memory e.refused)

pub returns-in_err-plan-clause-refused : goal.returns-in_err-plan-clause-refused
returns-in_err-plan-clause-refused c notices =
    let p = err_from_is_err_and c.from_residual.result c.from_residual.ensures.1 in
    let due = rw c.plain.ensures at c.in_err-plan.ensures.due in
    rw (p.1, p.2) (count_refused (search_of c.args.search.now) (questions_of c.args.questions.now) c.args.style
    notices c.in_err-plan.field-0.0 due)
