-- The lengths of a hand's suits in descending order: a table of what each is.
use Rattle.std.specs.Prelude.{◌≡◌, ℕ, List, [], ◌∷◌, Some, max, min, refl, slice_get, unwrap_or}
use Rattle.cards.specs.declared.order.Order.{Order}
use Rattle.cards.specs.declared.order.Order.TheVariants.{Longest, Second, Shortest}

-- the greatest number that two of four reach: of each two the lesser, and of these six the greatest
abbrev pub greatest_of_two : ℕ → ℕ → ℕ → ℕ → ℕ
greatest_of_two s h d c =
    max (max (min s h) (min d c)) (max (max (min s d) (min s c)) (max (min h d) (min h c)))

-- the number of an order among four; the second greatest is the greatest that two of them reach
abbrev pub ordered : Order → ℕ → ℕ → ℕ → ℕ → ℕ
ordered Longest s h d c = max (max s h) (max d c)
ordered Second s h d c = greatest_of_two s h d c
ordered Shortest s h d c = min (min s h) (min d c)

-- the least and the greatest of any four lengths of thirteen cards
abbrev pub least_ordered : Order → ℕ
least_ordered Longest = 4
least_ordered o = 0

abbrev pub greatest_ordered : Order → ℕ
greatest_ordered Longest = 13
greatest_ordered Second = 6
greatest_ordered Shortest = 3

-- all orders
abbrev pub orders : List Order
orders = Longest ∷ Second ∷ Shortest ∷ []

-- an order's place among all, and back
abbrev pub order_number : Order → ℕ
order_number Longest = 0
order_number Second = 1
order_number Shortest = 2

abbrev pub order_of_number : ℕ → Order
order_of_number n = unwrap_or (slice_get orders n) Longest

pub order_listed : (o : Order) → slice_get orders (order_number o) ≡ Some o
order_listed Longest = refl
order_listed Second = refl
order_listed Shortest = refl

pub order_back : (o : Order) → order_of_number (order_number o) ≡ o
order_back o = rw (order_listed o) refl
