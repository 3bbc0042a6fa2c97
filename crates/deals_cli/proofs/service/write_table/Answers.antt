use Rattle.std.proofs.Common.{ap, arith}
use Rattle.boards.proofs.BoardLists.{length-boards_of}
use Rattle.boards.specs.Plans.{Planned}
use Rattle.boards.specs.Text.{accepted}
use Rattle.statistics.specs.Counting.{counting}
use Rattle.statistics.specs.Subjects.{subject_of}
use Rattle.deals_cli.proofs.Counted.{table_written}
use Rattle.deals_cli.proofs.OtherWorkers.{worked_writes}
use Rattle.deals_cli.proofs.service.write_table.Goals as goal

pub returns-clause-ends : goal.returns-clause-ends
returns-clause-ends g c =
    let job = c.args.job in
    let w = c.worked-run.ensures in
    let e = c.in_ok-write_plan.ensures.ends in
    let boards = c.in_ok-write_plan.field-0.boards in
    let old = g.O.Sink.bytes c.args.out.now in
    let new = g.O.Sink.bytes c.write_plan.new.out in
    let counts = ap (λ (p : Planned). p.count) w.2 in
    let text = worked_writes (counting job.style (subject_of job.subject)) job.plan c.worked-run.result job.condition
    w.0 boards old new w.2 (rw c.in-Ok.ensures.layout at e.text) in
    table_written job.style (subject_of job.subject) job.plan job.condition boards old new job.plain
    (omega (
      arith,
      length-boards_of job.plan (accepted job.plan job.condition),
      text.boards_are,
      e.few.0,
      e.few.1,
      counts,
      c.count-count.ensures.range,
    )) text
