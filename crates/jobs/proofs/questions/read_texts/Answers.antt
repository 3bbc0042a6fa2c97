use Rattle.std.proofs.Common.{◌∙◌, ap, ap₂}
use Rattle.std.proofs.lemmas.Result.{err_from_is_err_and}
use Rattle.statistics.specs.Counting.{by_each, by_one, by_two}
use Rattle.jobs.proofs.questions.read_texts.Goals as goal

pub returns-in_err-asked_of-in-One-clause-memory : goal.returns-in_err-asked_of-in-One-clause-memory
returns-in_err-asked_of-in-One-clause-memory c =
    let p = err_from_is_err_and c.from_residual.result c.from_residual.ensures.1 in
    rw (p.1, p.2) (λ s asks. let here = rw c.in-One.is at asks in c.in_err-asked_of-in-One.ensures.memory here.0 here.1)

pub returns-in_err-of-in-Two-clause-memory : goal.returns-in_err-of-in-Two-clause-memory
returns-in_err-of-in-Two-clause-memory c =
    let p = err_from_is_err_and c.from_residual-in_err-of-in-Two.result c.from_residual-in_err-of-in-Two.ensures.1 in
    rw (p.1, p.2) (λ s asks. let here = rw c.in-Two.is at asks in c.in_err-of-in-Two.ensures.memory here.0 here.2)

pub returns-in_err-by-in-Two-clause-memory : goal.returns-in_err-by-in-Two-clause-memory
returns-in_err-by-in-Two-clause-memory c =
    let p = err_from_is_err_and c.from_residual-in_err-by-in-Two.result c.from_residual-in_err-by-in-Two.ensures.1 in
    rw (p.1, p.2) (λ s asks. let here = rw c.in-Two.is at asks in c.in_err-by-in-Two.ensures.memory here.1 here.3)

pub returns-in_ok-asked_of-in-One-clause-only : goal.returns-in_ok-asked_of-in-One-clause-only
returns-in_ok-asked_of-in-One-clause-only c t asks =
    let here = rw c.in-One.is at asks in here.2 ∙ ap by_one (c.in_ok-asked_of-in-One.ensures.only here.0 here.1)

pub returns-in_ok-by-in-Two-clause-only : goal.returns-in_ok-by-in-Two-clause-only
returns-in_ok-by-in-Two-clause-only c t asks =
    let here = rw c.in-Two.is at asks in here.4 ∙ ap₂ by_two (c.in_ok-of-in-Two.ensures.only here.0 here.2)
    (c.in_ok-by-in-Two.ensures.only here.1 here.3)

pub returns-in_err-read_each-in-Each-clause-memory : goal.returns-in_err-read_each-in-Each-clause-memory
returns-in_err-read_each-in-Each-clause-memory c =
    let p = err_from_is_err_and c.from_residual-in_err-read_each-in-Each.result c.from_residual-in_err-read_each-in-Each.ensures.1 in
    rw (p.1, p.2) (λ s asks. let here = rw c.in-Each.is at asks in c.in_err-read_each-in-Each.ensures.memory here.0 here.1)

pub returns-in_ok-read_each-in-Each-clause-only : goal.returns-in_ok-read_each-in-Each-clause-only
returns-in_ok-read_each-in-Each-clause-only c t asks =
    let here = rw c.in-Each.is at asks in here.2 ∙ ap by_each (c.in_ok-read_each-in-Each.ensures.only here.0 here.1)
