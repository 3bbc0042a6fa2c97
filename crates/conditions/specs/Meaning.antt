-- What a tree means of a deal.
use Rattle.std.specs.Prelude.{ℕ, ◌+◌, ◌*◌, Bool, true, false, not, ◌&&◌, ◌||◌, ◌==◌, nat_lt, nat_le, List, [], ◌∷◌}
use Rattle.std.specs.List.{list_any}
use Rattle.cards.specs.declared.seat.Seat.{Seat}
use Rattle.cards.specs.Hands.{hand_of, length_of, shape_of, is_balanced, is_same, is_rearrangement, orders_of}
use Rattle.cards.specs.Counts.{total_of, total_in, honours_of, honours_in, ordered_of, stops_in}
use Rattle.conditions.specs.declared.tree.Count.{Count}
use Rattle.conditions.specs.declared.tree.Count.TheVariants as counts
use Rattle.conditions.specs.declared.tree.Item.{Item}
use Rattle.conditions.specs.declared.tree.Item.TheVariants.{Length, Any}
use Rattle.conditions.specs.declared.tree.Op.{Op}
use Rattle.conditions.specs.declared.tree.Op.TheVariants.{Equal, NotEqual, Less, AtMost, More, AtLeast}
use Rattle.conditions.specs.Form.{Amount, sum, number, counted, times, Form, any_of, all_of, negation, compare}
use Rattle.conditions.specs.Form.{within, balanced, shape, pattern, loose_shape, loose_pattern, stops}

-- how much is counted
abbrev pub count_in : List Seat → Count → ℕ
count_in deal (counts.Total m q) = total_of m (hand_of deal q)
count_in deal (counts.SuitTotal m q s) = total_in m (hand_of deal q) s
count_in deal (counts.Cards q h) = honours_of h (hand_of deal q)
count_in deal (counts.SuitCards q s h) = honours_in h (hand_of deal q) s
count_in deal (counts.Length q s) = length_of (hand_of deal q) s
count_in deal (counts.Ordered o q) = ordered_of o (hand_of deal q)

-- the number that a value is
abbrev pub value_in : List Seat → Amount → ℕ
value_in deal (sum a b) = value_in deal a + value_in deal b
value_in deal (number n) = n
value_in deal (counted c) = count_in deal c
value_in deal (times n c) = n * count_in deal c

-- whether two numbers are in the relation
abbrev pub is_related : Op → ℕ → ℕ → Bool
is_related Equal a b = a == b
is_related NotEqual a b = not (a == b)
is_related Less a b = nat_lt a b
is_related AtMost a b = nat_le a b
is_related More a b = nat_lt b a
is_related AtLeast a b = nat_le b a

-- whether an item allows a suit of this length: `x` allows any
abbrev pub allows : Item → ℕ → Bool
allows Any length = true
allows (Length n) length = length == n

-- whether the items allow the lengths, each the one at its place
abbrev pub are_allowed : List Item → List ℕ → Bool
are_allowed [] [] = true
are_allowed (item ∷ items) (n ∷ ns) = allows item n && are_allowed items ns
are_allowed _ _ = false

-- whether they allow the lengths in some order
unfoldable pub are_allowed_in_some_order : List Item → List ℕ → Bool
are_allowed_in_some_order items ns = list_any (are_allowed items) (orders_of ns)

-- whether the tree is true of the deal
abbrev pub holds : Form → List Seat → Bool
holds (any_of a b) deal = holds a deal || holds b deal
holds (all_of a b) deal = holds a deal && holds b deal
holds (negation a) deal = not (holds a deal)
holds (compare a o b) deal = is_related o (value_in deal a) (value_in deal b)
holds (within a m n) deal = nat_le m (value_in deal a) && nat_le (value_in deal a) n
holds (balanced q) deal = is_balanced (shape_of (hand_of deal q))
holds (shape q lengths) deal = is_same (shape_of (hand_of deal q)) lengths
holds (pattern q lengths) deal = is_rearrangement (shape_of (hand_of deal q)) lengths
holds (loose_shape q items) deal = are_allowed items (shape_of (hand_of deal q))
holds (loose_pattern q items) deal = are_allowed_in_some_order items (shape_of (hand_of deal q))
holds (stops q s) deal = stops_in (hand_of deal q) s
