use Rattle.std.proofs.Common.{option_map}
use Rattle.std.proofs.lemmas.Result.{err_from_is_err_and}
use Rattle.jobs.proofs.FirstDue.{unread}
use Rattle.jobs.proofs.Refusals.{meant_status}
use Rattle.jobs.proofs.search.read_text.Goals as goal

pub returns-in_err-parse_given-clause-memory : goal.returns-in_err-parse_given-clause-memory
returns-in_err-parse_given-clause-memory c =
    let p = err_from_is_err_and c.from_residual.result c.from_residual.ensures.1 in
    rw (p.1, p.2)
    (meant_status (option_map (λ t. t.now) c.args.definitions) c.args.given c.in-Some.text
    c.in_err-parse_given.field-0.0 c.in-Some.is c.in_err-parse_given.ensures.memory)

pub returns-in_err-parse_given-clause-due : goal.returns-in_err-parse_given-clause-due
returns-in_err-parse_given-clause-due c =
    let p = err_from_is_err_and c.from_residual.result c.from_residual.ensures.1 in
    rw (p.1, p.2)
    (unread (option_map (λ t. t.now) c.args.definitions) c.args.given c.in-Some.text c.in_err-parse_given.field-0.0
    c.in-Some.is c.in_err-parse_given.ensures.due)
