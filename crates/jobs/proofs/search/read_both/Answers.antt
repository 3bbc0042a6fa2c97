use Rattle.std.proofs.Common.{refl}
use Rattle.std.proofs.lemmas.Result.{IfErr-weaker, err_from_is_err_and}
use Rattle.requests.specs.Requests.{search_of}
use Rattle.jobs.specs.internal.Conditions.{IsEitherFailure, IsTextFailure}
use Rattle.jobs.proofs.Joined.{condition_failure, condition_memory, failure_alone, lesson_memory}
use Rattle.jobs.proofs.search.read_both.Goals as goal

pub returns-then-is_none-clause-due : goal.returns-then-is_none-clause-due
returns-then-is_none-clause-due c =
    let s = search_of c.args.search.now in
    IfErr-weaker c.read_text.result (IsTextFailure s.let_text s.where_text) (IsEitherFailure s)
    (λ f h. failure_alone c.args.search.now.lesson s f refl c.if-is_none.ensures h) c.read_text.ensures.due

pub returns-in_err-lesson-clause-memory : goal.returns-in_err-lesson-clause-memory
returns-in_err-lesson-clause-memory c =
    let s = search_of c.args.search.now in
    let p = err_from_is_err_and c.from_residual.result c.from_residual.ensures.1 in
    rw (p.1, p.2) (lesson_memory s.lesson s.let_text s.where_text c.in_err-lesson.field-0.0 c.in_err-lesson.ensures.memory)

pub returns-in_err-condition-clause-memory : goal.returns-in_err-condition-clause-memory
returns-in_err-condition-clause-memory c =
    let s = search_of c.args.search.now in
    let p = err_from_is_err_and c.from_residual-in_err-condition.result c.from_residual-in_err-condition.ensures.1 in
    rw (p.1, p.2) (condition_memory s.lesson s.let_text s.where_text c.in_err-condition.field-0.0 c.in_err-condition.ensures.memory)

pub returns-in_err-condition-clause-due : goal.returns-in_err-condition-clause-due
returns-in_err-condition-clause-due c =
    let s = search_of c.args.search.now in
    let p = err_from_is_err_and c.from_residual-in_err-condition.result c.from_residual-in_err-condition.ensures.1 in
    rw (p.1, p.2) (condition_failure s c.in_ok-lesson.lesson c.in_err-condition.field-0.0 c.in_ok-lesson.ensures.meant c.in_err-condition.ensures.due)
