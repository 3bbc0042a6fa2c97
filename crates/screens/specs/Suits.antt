-- A number for each suit of a hand.
use Rattle.std.specs.Prelude.{ℕ, ◌+◌, ◌≤◌, List, [], ◌∷◌}
use Rattle.cards.specs.declared.order.Order.{Order}
use Rattle.cards.specs.Orders.{ordered}
use Rattle.screens.specs.declared.unmet.by_suit.BySuit.{BySuit}

-- the number of an order among the four
abbrev pub ordered_in : Order → BySuit → ℕ
ordered_in o n = ordered o n.spades n.hearts n.diamonds n.clubs

abbrev pub total_in : BySuit → ℕ
total_in n = n.spades + n.hearts + n.diamonds + n.clubs

-- each is at most this
pub record HasUpTo (most : ℕ) (n : BySuit) : Type 0 where
  pub spades : n.spades ≤ most
  pub hearts : n.hearts ≤ most
  pub diamonds : n.diamonds ≤ most
  pub clubs : n.clubs ≤ most

-- in the order of the suits
abbrev pub in_order : BySuit → List ℕ
in_order n = n.spades ∷ n.hearts ∷ n.diamonds ∷ n.clubs ∷ []
