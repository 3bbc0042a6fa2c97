use Rattle.std.proofs.Common.{◌≡◌, fold, map, take}
use Rattle.clap.specs.Words.{app_of, with_rule}
use Rattle.clap.specs.declared.Command.TheViews.{out-Command as fields_of}
use Rattle.command_line.specs.internal.Rows.{rule_for}
use Rattle.command_line.proofs.rows.with_rows.Given as goal

-- the options so far are those of the rows so far
abbrev pub invariant-loop-row : goal.invariant-loop-row
invariant-loop-row l =
    (app_of l.command ≡ fold with_rule (app_of l.fn.command) (map rule_for (take l.row-index l.rows)))
    × ((fields_of l.command).has_globals ≡ (fields_of l.fn.command).has_globals)
