-- The least and the greatest number that a value of any deal is: a table, as far as each of its
-- parts says. The law `values_are_within_bounds` says what they are worth.
use Rattle.std.specs.Prelude.{ℕ, ◌+◌, ◌-◌, ◌*◌, List, cond, min, option_map, slice_index_or}
use Rattle.std.specs.Prelude.{sum, unwrap_or}
use Rattle.cards.specs.declared.honours.Honours.{Honours}
use Rattle.cards.specs.declared.hand.Measure.{Measure}
use Rattle.cards.specs.declared.hand.Measure.TheVariants.{Losers}
use Rattle.cards.specs.Measures.{weights_of}
use Rattle.cards.specs.Orders.{greatest_ordered, least_ordered}
use Rattle.conditions.specs.declared.tree.Count.{Count}
use Rattle.conditions.specs.declared.tree.Count.TheVariants as counts
use Rattle.conditions.specs.Form.{Amount, counted, number, times, sum as plus}

-- how many ranks these are
abbrev pub rank_count : Honours → ℕ
rank_count h =
    cond h.ace 1 0 + cond h.king 1 0 + cond h.queen 1 0 + cond h.jack 1 0 + cond h.ten 1 0

-- the least of the weights of four ranks
abbrev pub least_weight : List ℕ → ℕ
least_weight w =
    min (min (slice_index_or w 0 0) (slice_index_or w 1 0))
    (min (slice_index_or w 2 0) (slice_index_or w 3 0))

-- the most that the cards of one suit count by a measure that counts more than ranks
abbrev pub most_counted : Measure → ℕ
most_counted Losers = 3
most_counted m = 0

-- the most that a hand counts by a measure: of the sixteen honours it lacks three
abbrev pub most_of : Measure → ℕ
most_of m =
    unwrap_or
    (option_map (λ w. 4 * sum w - 3 * least_weight w) (weights_of m)) (4 * most_counted m)

-- and the most that its cards of one suit count
abbrev pub most_in : Measure → ℕ
most_in m = unwrap_or (option_map sum (weights_of m)) (most_counted m)

abbrev pub least_count : Count → ℕ
least_count (counts.Ordered o q) = least_ordered o
least_count _ = 0

abbrev pub greatest_count : Count → ℕ
greatest_count (counts.Total m q) = most_of m
greatest_count (counts.SuitTotal m q s) = most_in m
greatest_count (counts.Cards q h) = min (4 * rank_count h) 13
greatest_count (counts.SuitCards q s h) = rank_count h
greatest_count (counts.Length q s) = 13
greatest_count (counts.Ordered o q) = greatest_ordered o

abbrev pub least_of : Amount → ℕ
least_of (plus a b) = least_of a + least_of b
least_of (number n) = n
least_of (counted c) = least_count c
least_of (times n c) = n * least_count c

abbrev pub greatest_of : Amount → ℕ
greatest_of (plus a b) = greatest_of a + greatest_of b
greatest_of (number n) = n
greatest_of (counted c) = greatest_count c
greatest_of (times n c) = n * greatest_count c
