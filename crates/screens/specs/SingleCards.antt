-- What single cards count in a count, and what is counted beside them.
use Rattle.std.specs.Prelude.{ℕ, cond, option_map, slice_index_or, unwrap_or}
use Rattle.cards.specs.declared.hand.Measure.{Measure}
use Rattle.cards.specs.declared.seat.Seat.{Seat}
use Rattle.cards.specs.Counts.{has_honour}
use Rattle.cards.specs.Measures.{weights_of}
use Rattle.cards.specs.Pack.{is_in_suit, rank_of}
use Rattle.conditions.specs.declared.tree.Count.{Count}
use Rattle.conditions.specs.declared.tree.Count.TheVariants as counts
use Rattle.conditions.specs.Bounds.{greatest_count, most_in, most_of}

-- the seat whose hand is counted
abbrev pub whose : Count → Seat
whose (counts.Total m q) = q
whose (counts.SuitTotal m q s) = q
whose (counts.Cards q h) = q
whose (counts.SuitCards q s h) = q
whose (counts.Length q s) = q
whose (counts.Ordered o q) = q

-- what a card counts by a measure, if that counts ranks
abbrev pub rank_weight : Measure → ℕ → ℕ
rank_weight m c = unwrap_or (option_map (λ w. slice_index_or w (rank_of c) 0) (weights_of m)) 0

-- what the card counts if the seat has it
abbrev pub counts_for : Count → ℕ → ℕ
counts_for (counts.Total m q) c = rank_weight m c
counts_for (counts.SuitTotal m q s) c = cond (is_in_suit s c) (rank_weight m c) 0
counts_for (counts.Cards q h) c = cond (has_honour h (rank_of c)) 1 0
counts_for (counts.SuitCards q s h) c =
    cond (is_in_suit s c) (cond (has_honour h (rank_of c)) 1 0) 0
counts_for (counts.Length q s) c = cond (is_in_suit s c) 1 0
counts_for _ c = 0

-- the most that is counted beside single cards
abbrev pub count_beside : Count → ℕ
count_beside (counts.Total m q) = unwrap_or (option_map (λ w. 0) (weights_of m)) (most_of m)
count_beside (counts.SuitTotal m q s) = unwrap_or (option_map (λ w. 0) (weights_of m)) (most_in m)
count_beside (counts.Ordered o q) = greatest_count (counts.Ordered o q)
count_beside k = 0
