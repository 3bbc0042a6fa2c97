use Rattle.std.proofs.Common.{◌≡◌, ◌≤◌, length, take}
use Rattle.std.specs.List.{count_by}
use Rattle.cards.specs.Fixed.{is_free}
use Rattle.cards.specs.internal.Around.{IsListed}
use Rattle.cards.proofs.around.list_free.Given as goal

abbrev pub invariant-loop-card : goal.invariant-loop-card
invariant-loop-card l = record {
  all : l.count ≡ count_by is_free (take l.card l.seats);
  long : length l.free ≡ 52;
  few : l.count ≤ l.card;
  listed : IsListed l.seats l.free l.count;
}
