-- A value card by card: what a card counts in it at each seat, and what the value can be beside.
use Rattle.std.specs.Prelude.{ℕ, ◌+◌, ◌*◌, ◌==◌, nat_le, Bool, cond, min, max, Option, Some, None}
use Rattle.cards.specs.declared.seat.Seat.{Seat}
use Rattle.cards.specs.declared.seat.Seat.TheVariants.{North, East, South}
use Rattle.cards.specs.Pack.{seat_number}
use Rattle.screens.specs.declared.stage.Bound.{Bound}
use Rattle.screens.specs.declared.stage.Bound.TheVariants.{Least, Greatest}
use Rattle.screens.specs.declared.stage.Stage.{Stage}
use Rattle.screens.specs.declared.stage.Stage.TheVariants.{OneHand, TwoHands}
use Rattle.conditions.specs.declared.tree.Count.{Count}
use Rattle.conditions.specs.Bounds.{greatest_count, least_of}
use Rattle.conditions.specs.Form.{Amount, counted, number, times, sum as plus}
use Rattle.screens.specs.SingleCards.{count_beside, counts_for, whose}

abbrev pub is_at : Seat → Seat → Bool
is_at seat holder = seat_number holder == seat_number seat

-- what the card counts if the seat `q` has it
abbrev pub card_weight : Count → ℕ → Seat → ℕ
card_weight k c q = cond (is_at (whose k) q) (counts_for k c) 0

-- cards that count that many times can be weighed one by one: a greater factor would make them too
-- heavy, and what it multiplies is taken as a whole
abbrev pub is_light : ℕ → Bool
is_light factor = nat_le factor 15

-- what the card counts in the value if the seat `q` has it
abbrev pub weight_at : Amount → ℕ → Seat → ℕ
weight_at (plus a b) c q = weight_at a c q + weight_at b c q
weight_at (number n) c q = 0
weight_at (counted k) c q = card_weight k c q
weight_at (times n k) c q = cond (is_light n) (n * card_weight k c q) 0

-- the greatest of what isn't counted card by card; its least is that of the whole
abbrev pub greatest_beside : Amount → ℕ
greatest_beside (plus a b) = greatest_beside a + greatest_beside b
greatest_beside (number n) = n
greatest_beside (counted k) = count_beside k
greatest_beside (times n k) = cond (is_light n) (n * count_beside k) (n * greatest_count k)

abbrev pub beside : Bound → Amount → ℕ
beside Least a = least_of a
beside Greatest a = greatest_beside a

-- of two numbers the one that the bound takes
abbrev pub farther : Bound → ℕ → ℕ → ℕ
farther Least m n = min m n
farther Greatest m n = max m n

-- North and East may have a card of no known hand, and South too as long as that hand isn't known
abbrev pub third_open : Stage → Seat
third_open OneHand = South
third_open TwoHands = North

-- the least or the greatest that a card of no known hand counts, if it is fixed at this seat, or at
-- none
abbrev pub open_weight : Bound → Stage → Amount → ℕ → Option Seat → ℕ
open_weight bound stage a c (Some q) = weight_at a c q
open_weight bound stage a c None =
    farther bound (farther bound (weight_at a c North) (weight_at a c East))
    (weight_at a c (third_open stage))
