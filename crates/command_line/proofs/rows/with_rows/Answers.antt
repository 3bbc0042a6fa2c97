use Rattle.std.proofs.Common.{◌∙◌}
use Rattle.clap.specs.Words.{app_of, rule_of, with_rule}
use Rattle.command_line.specs.internal.Rows.{rule_for}
use Rattle.command_line.proofs.Adding.{one_more}
use Rattle.command_line.proofs.rows.with_rows.Goals as goal

pub loop-row-preserved : goal.loop-row-preserved
loop-row-preserved c = (
  one_more with_rule rule_for (app_of c.args.command) c.args.rows.now c.loop-row.row-index _
      (app_of c.loop-row.command) (app_of c.in_ok-command.command) (rule_of c.arg_of.result)
      c.loop-row-test.true c.loop-row.invariant.0 c.arg_of.ensures.rule
      c.in_ok-command.ensures.app,
  c.in_ok-command.ensures.local ∙ c.loop-row.invariant.1,
)
