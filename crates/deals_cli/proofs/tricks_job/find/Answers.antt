use Rattle.deals_cli.proofs.Telling.{finding_broken, found_by}
use Rattle.deals_cli.proofs.tricks_job.find.Goals as goal

pub returns-in-Err : goal.returns-in-Err
returns-in-Err g c =
    let w = c.worked-run.ensures in
    let ends = rw (c.in-Ok.ensures.layout, c.new-sink.ensures.bytes) at c.in-Err.ensures.ends in
    rw c.finding_cause.ensures (finding_broken c.args.plan.now c.worked-run.result c.args.condition c.args.workers
    c.in-Err.cause c.write_plan.new.out.bytes w.0 w.1 w.2 ends)

pub returns-in-Ok-numbers_of : goal.returns-in-Ok-numbers_of
returns-in-Ok-numbers_of g c =
    let w = c.worked-run.ensures in
    let ends = rw (c.in-Ok.ensures.layout, c.new-sink.ensures.bytes) at c.in-Ok-write_plan.ensures.ends in
    let read = rw c.bytes.ensures at c.in-Ok-numbers_of.ensures in
    found_by c.args.plan.now c.worked-run.result c.args.condition w.0 c.in-Ok-write_plan.written
    c.write_plan.new.out.bytes c.in-Ok-numbers_of.numbers.items w.2 c.first-first.ensures.range ends read
