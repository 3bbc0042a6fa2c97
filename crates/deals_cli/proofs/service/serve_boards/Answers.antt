use Rattle.deals_cli.proofs.Serving.{tricks_fail, tricks_reported, tricks_unreported}
use Rattle.deals_cli.proofs.service.serve_boards.Goals as goal

pub returns-in-Ok-clause-serves : goal.returns-in-Ok-clause-serves
returns-in-Ok-clause-serves g c w ready =
    tricks_reported w c.args.job c.in-Ok.report (g.I.Source.rest c.args.input.now)
    (g.I.Source.rest c.write_with_tricks.new.input) (g.O.Sink.bytes c.args.out.now)
    (g.O.Sink.bytes c.write_with_tricks.new.out)
    ready c.if-job.true c.in-Ok.ensures.ends c.if-is_reported.true

pub returns-in-Ok-2-clause-serves : goal.returns-in-Ok-2-clause-serves
returns-in-Ok-2-clause-serves g c w ready =
    tricks_unreported w c.args.job c.in-Ok-2.field-0 (g.I.Source.rest c.args.input.now)
    (g.I.Source.rest c.write_with_tricks.new.input) (g.O.Sink.bytes c.args.out.now)
    (g.O.Sink.bytes c.write_with_tricks.new.out)
    ready c.if-job.true c.in-Ok-2.ensures.ends c.if-is_reported.false

pub returns-in-Err-clause-serves : goal.returns-in-Err-clause-serves
returns-in-Err-clause-serves g c w ready =
    tricks_fail w c.args.job c.in-Err.failure (g.I.Source.rest c.args.input.now)
    (g.I.Source.rest c.write_with_tricks.new.input) (g.O.Sink.bytes c.args.out.now)
    (g.O.Sink.bytes c.write_with_tricks.new.out)
    ready c.if-job.true c.in-Err.ensures.ends
