use Rattle.std.proofs.Common.{◌≡◌, map, length}
use Rattle.command_line.specs.Given.{meant_by}
use Rattle.command_line.proofs.subcommands.named_in.Given as goal

-- what is left of the table says the same as all of it
abbrev pub invariant-loop-rows : goal.invariant-loop-rows
invariant-loop-rows l =
    meant_by (map (λ row. (row.name.now, row.subcommand)) l.rows) l.name
    ≡ meant_by (map (λ row. (row.name.now, row.subcommand)) l.fn.rows) l.name

abbrev pub decreases-loop-rows : goal.decreases-loop-rows
decreases-loop-rows l = length l.rows
