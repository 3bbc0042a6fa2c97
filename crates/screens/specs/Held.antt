-- What is known of a count by the cards that are fixed before the deal.
use Rattle.std.specs.Prelude.{ℕ, ◌+◌, ◌*◌, ◌==◌, max, min, Bool, true, false, cond, List}
use Rattle.std.specs.Prelude.{None, Option, Some, option_map, slice_index_or, unwrap_or}
use Rattle.std.specs.List.{sum_by}
use Rattle.cards.specs.declared.hand.Measure.{Measure}
use Rattle.cards.specs.declared.seat.Seat.{Seat}
use Rattle.cards.specs.Fixed.{room}
use Rattle.cards.specs.Measures.{weights_of}
use Rattle.cards.specs.Pack.{seat_number}
use Rattle.cards.specs.Shuffle.{pack}
use Rattle.conditions.specs.declared.tree.Count.{Count}
use Rattle.conditions.specs.declared.tree.Count.TheVariants as counts
use Rattle.screens.specs.declared.unmet.facts.Fact.{Fact}
use Rattle.screens.specs.SingleCards.{count_beside, counts_for, whose}

-- whether a card that is fixed so counts: `free` tells it of a card that isn't
abbrev pub is_had : Count → Option Seat → Bool → Bool
is_had k None free = free
is_had k (Some q) free = seat_number q == seat_number (whose k)

abbrev pub card_share : Count → ℕ → Option Seat → Bool → ℕ
card_share k c fixed free = cond (is_had k fixed free) (counts_for k c) 0

-- what the seat's fixed cards count, with the free cards if these count too
unfoldable pub had : List (Option Seat) → Count → Bool → ℕ
had fixed k free = sum_by (λ c. card_share k c (slice_index_or fixed c None) free) pack

-- the most that a rank counts by a measure, and a card
abbrev pub heaviest_of : List ℕ → ℕ
heaviest_of w =
    max (max (slice_index_or w 0 0) (slice_index_or w 1 0))
    (max (slice_index_or w 2 0) (slice_index_or w 3 0))

abbrev pub heaviest_rank : Measure → ℕ
heaviest_rank m = unwrap_or (option_map heaviest_of (weights_of m)) 0

abbrev pub heaviest : Count → ℕ
heaviest (counts.Total m q) = heaviest_rank m
heaviest (counts.SuitTotal m q s) = heaviest_rank m
heaviest (counts.Cards q h) = 1
heaviest (counts.SuitCards q s h) = 1
heaviest (counts.Length q s) = 1
heaviest k = 0

-- a seat has at most what no other has, and at most that many more cards as it gets
abbrev pub fact_on : List (Option Seat) → Count → Fact
fact_on fixed k = record {
  count = k;
  least = had fixed k false;
  most =
      count_beside k
      + min (had fixed k true) (had fixed k false + heaviest k * room fixed (whose k));
}
