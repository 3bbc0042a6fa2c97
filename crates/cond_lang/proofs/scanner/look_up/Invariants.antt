use Rattle.std.proofs.Common.{◌≡◌, map, length}
use Rattle.cond_lang.specs.internal.Scanning.{token_of}
use Rattle.cond_lang.proofs.scanner.look_up.Given as goal

abbrev pub invariant-loop-table : goal.invariant-loop-table
invariant-loop-table l = token_of (map (λ e. (e.0.now, e.1)) l.table) l.text ≡ token_of (map (λ e. (e.0.now, e.1)) l.fn.table) l.text

abbrev pub decreases-loop-table : goal.decreases-loop-table
decreases-loop-table l = length l.table
