use Rattle.std.proofs.Common.{◌≡◌, ◌+◌, ◌*◌, ◌≤◌, length}
use Rattle.conditions.specs.Form.{Amount}
use Rattle.cond_lang.specs.internal.Defining.{meanings, work_of}
use Rattle.cond_lang.specs.internal.Growing.{IsGrownValue}
use Rattle.cond_lang.specs.internal.Reading.{reading, a_value, sums}
use Rattle.cond_lang.proofs.parser.Parser.+values.Given as goal

abbrev pub decreases-value : goal.decreases-value
decreases-value l = 3 + 12 * length l.self.now + work_of l.names.now

abbrev pub decreases-atom : goal.decreases-atom
decreases-atom l = 2 + 12 * length l.self.now + work_of l.names.now

abbrev pub decreases-value_used : goal.decreases-value_used
decreases-value_used l = 1 + 12 * length l.self.now + work_of l.names.now

abbrev pub decreases-amount_named : goal.decreases-amount_named
decreases-amount_named l = work_of l.names.now

abbrev pub invariant-value-loop-self : goal.invariant-value-loop-self
invariant-value-loop-self l =
    ((a : Amount) × IsGrownValue l.room l.left a × (reading (meanings l.names) l.bound a_value l.fn.self ≡ reading
    (meanings l.names) l.bound (sums a) l.self))
    × (length l.self ≤ length l.fn.self)

abbrev pub decreases-value-loop-self : goal.decreases-value-loop-self
decreases-value-loop-self l = length l.self
