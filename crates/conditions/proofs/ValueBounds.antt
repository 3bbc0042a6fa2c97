-- The least and the greatest that a value of a deal is.
use Rattle.std.proofs.Common.{◌≤◌, List, arith}
use Rattle.std.proofs.Math.Nat.{mul-le-mul_left}
use Rattle.cards.specs.declared.seat.Seat.{Seat}
use Rattle.cards.specs.Deals.{IsPartition}
use Rattle.cards.specs.Hands.{hand_of}
use Rattle.cards.proofs.MaskCounts.{length_of-le}
use Rattle.cards.proofs.OrderedLengths.{ordered_greatest, ordered_least}
use Rattle.conditions.specs.declared.tree.Count.{Count}
use Rattle.conditions.specs.declared.tree.Count.TheVariants as counts
use Rattle.conditions.specs.Bounds.{greatest_count, greatest_of, least_count, least_of}
use Rattle.conditions.specs.Form.{Amount, counted, number, times}
use Rattle.conditions.specs.Form.{sum as plus}
use Rattle.conditions.specs.Meaning.{count_in, value_in}
use Rattle.conditions.proofs.HandBounds.{lengths_add}
use Rattle.conditions.proofs.Measured.{cards_most, cards_thirteen, measure_most, suit_cards_most, suit_measure_most}

pub count_at_least : (deal : List Seat) → IsPartition deal → (c : Count) → least_count c ≤ count_in deal c
count_at_least deal ok (counts.Ordered o q) = ordered_least o _ _ _ _ (lengths_add deal q ok)
count_at_least deal ok x = omega arith

pub at_least : (deal : List Seat) → IsPartition deal → (a : Amount) → least_of a ≤ value_in deal a
at_least deal ok (plus a b) = omega (arith, at_least deal ok a, at_least deal ok b)
at_least deal ok (number n) = omega arith
at_least deal ok (counted c) = count_at_least deal ok c
at_least deal ok (times n c) = mul-le-mul_left n (count_at_least deal ok c)

pub count_at_most : (deal : List Seat) → IsPartition deal → (c : Count) → count_in deal c ≤ greatest_count c
count_at_most deal ok (counts.Total m q) = measure_most m deal q ok
count_at_most deal ok (counts.SuitTotal m q s) = suit_measure_most m (hand_of deal q) s
count_at_most deal ok (counts.Cards q h) = omega (arith, cards_most h (hand_of deal q), cards_thirteen h deal q ok)
count_at_most deal ok (counts.SuitCards q s h) = suit_cards_most h (hand_of deal q) s
count_at_most deal ok (counts.Length q s) = length_of-le (hand_of deal q) s
count_at_most deal ok (counts.Ordered o q) = ordered_greatest o _ _ _ _ (lengths_add deal q ok)

pub at_most : (deal : List Seat) → IsPartition deal → (a : Amount) → value_in deal a ≤ greatest_of a
at_most deal ok (plus a b) = omega (arith, at_most deal ok a, at_most deal ok b)
at_most deal ok (number n) = omega arith
at_most deal ok (counted c) = count_at_most deal ok c
at_most deal ok (times n c) = mul-le-mul_left n (count_at_most deal ok c)
