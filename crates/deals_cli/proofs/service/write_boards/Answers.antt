use Rattle.std.proofs.Common.{◌∙◌, refl}
use Rattle.boards.specs.Captions.{captions_in}
use Rattle.notations.specs.Formats.{layout_showing}
use Rattle.deals_cli.proofs.OtherWorkers.{worked_end, worked_writes}
use Rattle.deals_cli.proofs.service.write_boards.Goals as goal

pub returns-clause-ends : goal.returns-clause-ends
returns-clause-ends g c =
    let job = c.args.job in
    let w = c.worked-run.ensures in
    let e = c.in_ok-written.ensures.ends in
    let text = worked_writes (layout_showing job.format job.show (captions_in job.format job.heading)) job.plan
    c.worked-run.result job.condition w.0 c.in_ok-written.written.boards
    (g.O.Sink.bytes c.args.out.now) (g.O.Sink.bytes c.write_plan.new.out) w.2 (rw c.in-Ok.ensures.layout at e.text) in (
      text.bytes,
      record {
        format_is = refl;
        plan_is = refl;
        candidates_are = e.candidates_are ∙ worked_end job.plan c.worked-run.result job.condition w.0 w.2;
        boards_are = text.boards_are;
      },
    )
