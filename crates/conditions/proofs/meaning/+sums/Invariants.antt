use Rattle.std.proofs.Common.{◌+◌, ◌*◌, ◌-◌}
use Rattle.conditions.specs.Limits.{atoms_of}
use Rattle.conditions.specs.Form.{amount_of}
use Rattle.conditions.proofs.meaning.+sums.Given as goal

-- a sum of two values is more than both, and less than the value that it is
abbrev pub decreases-value_in : goal.decreases-value_in
decreases-value_in l = 2 * atoms_of (amount_of l.value.now)

abbrev pub decreases-sum_in : goal.decreases-sum_in
decreases-sum_in l = 2 * (atoms_of (amount_of l.left.now) + atoms_of (amount_of l.right.now)) - 1
