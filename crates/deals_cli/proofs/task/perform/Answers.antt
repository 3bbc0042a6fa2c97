use Rattle.deals_cli.proofs.Answering.{flush_fails}
use Rattle.deals_cli.proofs.task.perform.Goals as goal

pub returns-in-Err-flush-clause-answers : goal.returns-in-Err-flush-clause-answers
returns-in-Err-flush-clause-answers g c words is =
    flush_fails words c.in-Ok.report (g.I.Source.rest c.args.input.now) (g.I.Source.rest c.write.new.input) (g.O.Sink.bytes c.args.out.now)
    (g.O.Sink.bytes c.write.new.out) (g.O.Sink.bytes c.flush.new.self) c.in-Err-flush.ensures.bytes (c.in-Ok.ensures.answers words is)
