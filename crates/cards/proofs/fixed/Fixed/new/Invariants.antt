use Rattle.std.proofs.Common.{ℕ, ◌<◌, ◌≤◌, get_or}
use Rattle.cards.specs.declared.seat.Seat.TheVariants.{North}
use Rattle.cards.specs.Deals.{all_seats}
use Rattle.cards.specs.Fixed.{held}
use Rattle.cards.proofs.fixed.Fixed.new.Given as goal

abbrev pub invariant-loop-seat : goal.invariant-loop-seat
invariant-loop-seat l = (k : ℕ) → k < l.seat-index → held l.seats (get_or all_seats k North) ≤ 13
