use Rattle.std.proofs.Common.{◌∙◌, fold, map, refl}
use Rattle.clap.specs.Words.{app_of, with_rule}
use Rattle.command_line.specs.internal.Rows.{rule_for}
use Rattle.command_line.proofs.Adding.{one_more}
use Rattle.command_line.proofs.rows.with_groups.Goals as goal

pub loop-rows-preserved : goal.loop-rows-preserved
loop-rows-preserved c = (
  one_more (fold with_rule) (λ rows. map rule_for rows.now) (app_of c.args.command) c.args.groups.now
      c.loop-rows.rows-index _ (app_of c.loop-rows.command) (app_of c.in_ok-command.command)
      _ c.loop-rows-test.true c.loop-rows.invariant.0 refl
      c.in_ok-command.ensures.app,
  c.in_ok-command.ensures.local ∙ c.loop-rows.invariant.1,
)
