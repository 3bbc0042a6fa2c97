use Rattle.std.proofs.Common.{◌≡◌, ℕ, ◌<◌, get_or, length}
use Rattle.cards.specs.declared.seat.Seat.TheVariants.{North}
use Rattle.cards.specs.Pack.{seat_at_position}
use Rattle.cards.specs.Shuffle.{card_at}
use Rattle.cards.proofs.places.seats_after.Given as goal

abbrev pub invariant-loop-position : goal.invariant-loop-position
invariant-loop-position l = record {
  long : length l.seats ≡ 52;
  dealt : (i : ℕ) → i < l.position → get_or l.seats (card_at l.places i) North ≡ seat_at_position i;
}
