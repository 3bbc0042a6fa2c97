use Rattle.std.proofs.Common.{◌≡◌, ℕ, ◌<◌, length, get_or}
use Rattle.std.specs.Prelude.{None}
use Rattle.cards.specs.internal.PackedMasks.{told_at}
use Rattle.cards.proofs.packed.seats_told.Given as goal

abbrev pub invariant-loop-card : goal.invariant-loop-card
invariant-loop-card l = record {
  long : length l.seats ≡ 52;
  told : (k : ℕ) → k < l.card → get_or l.seats k None ≡ told_at l.first l.second l.third k;
}
