use Rattle.std.proofs.Common.{◌≡◌, fold, map, take}
use Rattle.clap.specs.Words.{app_of, with_rule}
use Rattle.clap.specs.declared.Command.TheViews.{out-Command as fields_of}
use Rattle.command_line.specs.internal.Rows.{rule_for}
use Rattle.command_line.proofs.rows.with_groups.Given as goal

-- the options so far are those of the groups so far
abbrev pub invariant-loop-rows : goal.invariant-loop-rows
invariant-loop-rows l =
    (app_of l.command ≡ fold (fold with_rule) (app_of l.fn.command)
    (map (λ rows. map rule_for rows.now) (take l.rows-index l.groups)))
    × ((fields_of l.command).has_globals ≡ (fields_of l.fn.command).has_globals)
