use Rattle.std.proofs.lemmas.Result.{err_from_is_err_and}
use Rattle.requests.specs.Requests.{look_of, search_of}
use Rattle.jobs.proofs.FirstDue.{labels_due}
use Rattle.jobs.proofs.search.planned.Goals as goal

pub returns-in_err-heading-clause-due : goal.returns-in_err-heading-clause-due
returns-in_err-heading-clause-due c =
    let s = search_of c.args.search.now in
    let l = look_of c.args.look.now in
    let p = err_from_is_err_and c.from_residual.result c.from_residual.ensures.1 in
    rw (p.1, p.2) (labels_due s l _ c.in-Ok.ensures.sound (c.in_err-heading.ensures.due s))
