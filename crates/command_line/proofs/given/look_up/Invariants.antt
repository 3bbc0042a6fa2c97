use Rattle.std.proofs.Common.{◌≡◌, map, length}
use Rattle.command_line.specs.Given.{meant_by}
use Rattle.command_line.proofs.given.look_up.Given as goal

-- what is left of the table says the same as all of it
abbrev pub invariant-loop-table : goal.invariant-loop-table
invariant-loop-table g l =
    meant_by (map (λ p. (p.0.now, p.1)) l.table) l.word
    ≡ meant_by (map (λ p. (p.0.now, p.1)) l.fn.table) l.word

abbrev pub decreases-loop-table : goal.decreases-loop-table
decreases-loop-table g l = length l.table
