use Rattle.std.proofs.Common.{get_or, arith, below_more}
use Rattle.std.proofs.lemmas.Bool.{false≢true}
use Rattle.cards.specs.declared.seat.Seat.TheVariants.{North}
use Rattle.cards.specs.Deals.{all_seats}
use Rattle.cards.proofs.fixed.Fixed.new.Goals as goal

pub loop-seat-preserved : goal.loop-seat-preserved
loop-seat-preserved c = below_more _ _ c.loop-seat.invariant (omega (arith, c.held_by.ensures))

pub returns-then-held_by-gt13-clause-room : goal.returns-then-held_by-gt13-clause-room
returns-then-held_by-gt13-clause-room c =
    (λ h. absurd (false≢true h), λ ok. absurd (omega (arith, c.held_by.ensures, ok.room (get_or all_seats c.loop-seat.seat-index North))))
