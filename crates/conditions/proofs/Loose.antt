-- Items that are all numbers are the numbers: what they spell, and what they mean.
use Rattle.std.proofs.Common.{◌≡◌, ℕ, ◌==◌, ◌&&◌, false, List, [], ◌∷◌, map, refl, ap}
use Rattle.std.specs.List.{list_any}
use Rattle.cards.specs.declared.seat.Seat.{Seat}
use Rattle.cards.specs.Hands.{is_same, is_rearrangement, orders_of}
use Rattle.conditions.specs.declared.tree.Item.{Item}
use Rattle.conditions.specs.declared.tree.Item.TheVariants.{Length}
use Rattle.conditions.specs.Form.{shape, pattern, is_any, number_of, shaped, patterned}
use Rattle.conditions.specs.Meaning.{are_allowed, are_allowed_in_some_order}

abbrev as_items : List ℕ → List Item
as_items ns = map (λ n. Length n) ns

none_is_any : (ns : List ℕ) → list_any is_any (as_items ns) ≡ false
none_is_any [] = refl
none_is_any (n ∷ ns) = none_is_any ns

numbers_back : (ns : List ℕ) → map number_of (as_items ns) ≡ ns
numbers_back [] = refl
numbers_back (n ∷ ns) = ap (λ ms. n ∷ ms) (numbers_back ns)

pub number_shapes : (q : Seat) (ns : List ℕ) → shaped q (map (λ n. Length n) ns) ≡ shape q ns
number_shapes q ns = rw (none_is_any ns) (ap (shape q) (numbers_back ns))

pub number_patterns : (q : Seat) (ns : List ℕ) → patterned q (map (λ n. Length n) ns) ≡ pattern q ns
number_patterns q ns = rw (none_is_any ns) (ap (pattern q) (numbers_back ns))

pub numbers_allowed : (ns xs : List ℕ) → are_allowed (map (λ n. Length n) ns) xs ≡ is_same xs ns
numbers_allowed [] [] = refl
numbers_allowed [] (x ∷ xs) = refl
numbers_allowed (n ∷ ns) [] = refl
numbers_allowed (n ∷ ns) (x ∷ xs) = ap (λ b. (x == n) && b) (numbers_allowed ns xs)

pub orders_allowed : (ns xs : List ℕ) → are_allowed_in_some_order (map (λ n. Length n) ns) xs ≡ is_rearrangement xs ns
unfolding are_allowed_in_some_order is_rearrangement
orders_allowed ns xs = ap (λ f. list_any f (orders_of xs)) (λ i. λ zs. numbers_allowed ns zs i)
