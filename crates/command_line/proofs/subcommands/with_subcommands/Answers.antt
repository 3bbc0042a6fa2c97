use Rattle.std.proofs.Common.{ap}
use Rattle.clap.specs.Words.{app_of, with_subcommand}
use Rattle.command_line.specs.internal.Rows.{top_for}
use Rattle.command_line.proofs.Adding.{one_more}
use Rattle.command_line.proofs.subcommands.with_subcommands.Goals as goal

pub loop-row-preserved : goal.loop-row-preserved
loop-row-preserved c =
    one_more with_subcommand top_for (app_of c.args.command) c.args.rows.now c.loop-row.row-index _
    (app_of c.loop-row.command) (app_of c.in_ok-command.command) (app_of c.in_ok-command_of.field-0).top
    c.loop-row-test.true c.loop-row.invariant (ap (λ a. a.top) c.in_ok-command_of.ensures.app)
    (c.in_ok-command.ensures.shape c.in_ok-command_of.ensures.local)
