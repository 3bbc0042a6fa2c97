-- What a tree can't be, by what is known of a deal.
use Rattle.std.specs.Prelude.{ℕ, ◌&&◌, ◌||◌, not, nat_le, nat_lt, Bool, true, false, List, Option}
use Rattle.std.specs.Prelude.{None, Some, if◌then◌else◌}
use Rattle.cards.specs.declared.seat.Seat.{Seat}
use Rattle.cards.specs.Hands.{is_balanced, is_rearrangement, is_same}
use Rattle.conditions.specs.declared.tree.Op.{Op}
use Rattle.conditions.specs.declared.tree.Op.TheVariants.{AtLeast, AtMost, Equal, Less, More}
use Rattle.conditions.specs.declared.tree.Op.TheVariants.{NotEqual}
use Rattle.conditions.specs.Form.{Form, all_of, any_of, balanced, compare, loose_pattern}
use Rattle.conditions.specs.Form.{loose_shape, negation, pattern, shape, within}
use Rattle.conditions.specs.Meaning.{are_allowed, are_allowed_in_some_order}
use Rattle.screens.specs.declared.unmet.facts.Facts.{Facts}
use Rattle.screens.specs.Facts.{greatest_lengths, least_lengths}
use Rattle.screens.specs.Suits.{in_order}
use Rattle.screens.specs.Values.{greatest_value, least_value}

-- ---- relations

-- the relation, or where it doesn't hold the one that does
abbrev pub related_as : Op → Bool → Op
related_as o true = o
related_as Equal false = NotEqual
related_as NotEqual false = Equal
related_as Less false = AtLeast
related_as AtMost false = More
related_as More false = AtMost
related_as AtLeast false = Less

-- it holds of no two numbers, the left from a to b and the right from c to d
abbrev pub is_never_related : Op → ℕ → ℕ → ℕ → ℕ → Bool
is_never_related Equal a b c d = nat_lt b c || nat_lt d a
is_never_related NotEqual a b c d = nat_le b c && nat_le d a
is_never_related Less a b c d = nat_le d a
is_never_related AtMost a b c d = nat_lt d a
is_never_related More a b c d = nat_le b c
is_never_related AtLeast a b c d = nat_lt b c

-- no number from a to b is from m to n, or each is
abbrev pub is_never_within : Bool → ℕ → ℕ → ℕ → ℕ → Bool
is_never_within true a b m n = nat_lt n m || (nat_lt b m || nat_lt n a)
is_never_within false a b m n = nat_le m a && nat_le b n

-- ---- shapes

-- a seat's shape, if it is known
abbrev pub shape_by : Facts → Seat → Option (List ℕ)
shape_by k q =
    if is_same (in_order (least_lengths k q)) (in_order (greatest_lengths k q))
    then Some (in_order (least_lengths k q)) else None

-- a test of it can't have this truth
abbrev pub is_other : (List ℕ → Bool) → Bool → Option (List ℕ) → Bool
is_other test truth None = false
is_other test true (Some lengths) = not (test lengths)
is_other test false (Some lengths) = test lengths

abbrev pub is_refuted_shape : Facts → Bool → Form → Bool
is_refuted_shape k truth (balanced q) = is_other is_balanced truth (shape_by k q)
is_refuted_shape k truth (shape q ns) = is_other (λ s. is_same s ns) truth (shape_by k q)
is_refuted_shape k truth (pattern q ns) =
    is_other (λ s. is_rearrangement s ns) truth (shape_by k q)
is_refuted_shape k truth (loose_shape q items) = is_other (are_allowed items) truth (shape_by k q)
is_refuted_shape k truth (loose_pattern q items) =
    is_other (are_allowed_in_some_order items) truth (shape_by k q)
is_refuted_shape k truth f = false

-- ---- trees

-- the tree can't have this truth
abbrev pub is_refuted : Facts → Bool → Form → Bool
is_refuted k true (any_of a b) = is_refuted k true a && is_refuted k true b
is_refuted k false (any_of a b) = is_refuted k false a || is_refuted k false b
is_refuted k true (all_of a b) = is_refuted k true a || is_refuted k true b
is_refuted k false (all_of a b) = is_refuted k false a && is_refuted k false b
is_refuted k truth (negation a) = is_refuted k (not truth) a
is_refuted k truth (compare a o b) =
    is_never_related (related_as o truth) (least_value k a) (greatest_value k a)
    (least_value k b) (greatest_value k b)
is_refuted k truth (within a m n) =
    is_never_within truth (least_value k a) (greatest_value k a) m n
is_refuted k truth f = is_refuted_shape k truth f
