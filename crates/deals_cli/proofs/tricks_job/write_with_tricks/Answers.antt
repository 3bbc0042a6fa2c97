use Rattle.std.proofs.Common.{◌∙◌, refl}
use Rattle.std.proofs.lemmas.Result.{err_from_is_err_and}
use Rattle.input.specs.Told.{written_by}
use Rattle.deals_cli.proofs.Telling.{ends_read}
use Rattle.deals_cli.proofs.tricks_job.write_with_tricks.Goals as goal

pub invariant_of-result : goal.invariant_of-result
invariant_of-result g c = record { within = c.in-Ok.ensures.counts.1; accepted = c.in-Ok.ensures.counts.0 }

pub returns-in_err-pass_on-clause-ends : goal.returns-in_err-pass_on-clause-ends
returns-in_err-pass_on-clause-ends g c =
    let p = err_from_is_err_and c.from_residual-in_err-pass_on.result c.from_residual-in_err-pass_on.ensures.1 in
    let e = c.in_ok-printer.ensures in
    rw (p.1, p.2, c.in_err-pass_on.ensures.bytes) (ends_read c.args.job (written_by c.in_ok-printer.printer)
    c.as_slice.result.now (g.I.Source.rest c.args.input.now) (g.I.Source.rest c.tell-told.new.input)
    (g.O.Sink.bytes c.args.out.now) (g.O.Sink.bytes c.tell-told.new.sink)
    (rw (e.format, e.show, e.heading) refl) (c.as_slice.ensures.value ∙ c.in-Ok.ensures.numbers_are)
    c.tell-told.result c.in_err-pass_on.field-0.0 c.tell-told.ensures.tells c.in_err-pass_on.ensures.ends)
