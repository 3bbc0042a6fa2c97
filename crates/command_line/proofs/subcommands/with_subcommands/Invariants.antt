use Rattle.std.proofs.Common.{◌≡◌, fold, map, take}
use Rattle.clap.specs.Words.{app_of, with_subcommand}
use Rattle.command_line.specs.internal.Rows.{top_for}
use Rattle.command_line.proofs.subcommands.with_subcommands.Given as goal

-- the subcommands so far
abbrev pub invariant-loop-row : goal.invariant-loop-row
invariant-loop-row l =
    app_of l.command ≡ fold with_subcommand (app_of l.fn.command) (map top_for (take l.row-index l.rows))
