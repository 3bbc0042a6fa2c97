-- What is known of a deal: bounds of four counts, and the bounds of others that follow.
use Rattle.std.specs.Prelude.{ℕ, ◌+◌, ◌≤◌, nat_le, max, min, Bool, cond, List, [], ◌∷◌}
use Rattle.std.specs.Prelude.{if◌then◌else◌}
use Rattle.cards.specs.declared.hand.Measure.{Measure}
use Rattle.cards.specs.declared.honours.Honours.{Honours}
use Rattle.cards.specs.declared.seat.Seat.{Seat}
use Rattle.cards.specs.declared.suit.Suit.TheVariants.{Spades, Hearts, Diamonds, Clubs}
use Rattle.cards.specs.Hands.{is_same}
use Rattle.cards.specs.Measures.{measure_number}
use Rattle.cards.specs.Orders.{order_number}
use Rattle.cards.specs.Pack.{seat_number, suit_number}
use Rattle.conditions.specs.declared.tree.Count.{Count}
use Rattle.conditions.specs.declared.tree.Count.TheVariants as counts
use Rattle.conditions.specs.Bounds.{greatest_count, least_count}
use Rattle.conditions.specs.Meaning.{count_in}
use Rattle.screens.specs.declared.unmet.by_suit.BySuit.{BySuit}
use Rattle.screens.specs.declared.unmet.facts.Fact.{Fact}
use Rattle.screens.specs.declared.unmet.facts.Facts.{Facts}
use Rattle.screens.specs.Suits.{ordered_in, total_in}

-- ---- facts that hold

pub record IsTrueOf (deal : List Seat) (fact : Fact) : Type 0 where
  pub low : fact.least ≤ count_in deal fact.count
  pub high : count_in deal fact.count ≤ fact.most

pub record AreTrueOf (deal : List Seat) (facts : Facts) : Type 0 where
  pub first : IsTrueOf deal facts.first
  pub second : IsTrueOf deal facts.second
  pub third : IsTrueOf deal facts.third
  pub fourth : IsTrueOf deal facts.fourth

-- ---- the same count

abbrev pub honours_number : Honours → ℕ
honours_number h =
    cond h.ace 16 0 + cond h.king 8 0 + cond h.queen 4 0 + cond h.jack 2 0 + cond h.ten 1 0

-- what is counted, by numbers: what, whose, in which suit, and by which measure, of which order or
-- of which ranks
abbrev pub count_code : Count → List ℕ
count_code (counts.Total m q) = 1 ∷ seat_number q ∷ 0 ∷ measure_number m ∷ []
count_code (counts.SuitTotal m q s) = 2 ∷ seat_number q ∷ suit_number s ∷ measure_number m ∷ []
count_code (counts.Length q s) = 3 ∷ seat_number q ∷ suit_number s ∷ 0 ∷ []
count_code (counts.Ordered o q) = 4 ∷ seat_number q ∷ 0 ∷ order_number o ∷ []
count_code (counts.Cards q h) = 5 ∷ seat_number q ∷ 0 ∷ honours_number h ∷ []
count_code (counts.SuitCards q s h) = 6 ∷ seat_number q ∷ suit_number s ∷ honours_number h ∷ []

unfoldable pub is_same_count : Count → Count → Bool
is_same_count a b = is_same (count_code a) (count_code b)

-- ---- bounds of a count

-- by one fact, which may tell of another count
abbrev pub least_in : Fact → Count → ℕ
least_in fact c = if is_same_count fact.count c then fact.least else 0

abbrev pub greatest_in : Fact → Count → ℕ → ℕ
greatest_in fact c most = if is_same_count fact.count c then min most fact.most else most

-- by the facts that tell of it, and by what it is in any deal
unfoldable pub least_told : Facts → Count → ℕ
least_told k c =
    max (max (max (least_in k.first c) (least_in k.second c))
    (max (least_in k.third c) (least_in k.fourth c))) (least_count c)

unfoldable pub greatest_told : Facts → Count → ℕ
greatest_told k c =
    greatest_in k.fourth c
    (greatest_in k.third c (greatest_in k.second c (greatest_in k.first c (greatest_count c))))

-- the same of a seat's suits: of their lengths, and of what their cards count
abbrev pub least_lengths : Facts → Seat → BySuit
least_lengths k q = record {
  spades = least_told k (counts.Length q Spades);
  hearts = least_told k (counts.Length q Hearts);
  diamonds = least_told k (counts.Length q Diamonds);
  clubs = least_told k (counts.Length q Clubs);
}

abbrev pub greatest_lengths : Facts → Seat → BySuit
greatest_lengths k q = record {
  spades = greatest_told k (counts.Length q Spades);
  hearts = greatest_told k (counts.Length q Hearts);
  diamonds = greatest_told k (counts.Length q Diamonds);
  clubs = greatest_told k (counts.Length q Clubs);
}

abbrev pub least_totals : Facts → Measure → Seat → BySuit
least_totals k m q = record {
  spades = least_told k (counts.SuitTotal m q Spades);
  hearts = least_told k (counts.SuitTotal m q Hearts);
  diamonds = least_told k (counts.SuitTotal m q Diamonds);
  clubs = least_told k (counts.SuitTotal m q Clubs);
}

abbrev pub greatest_totals : Facts → Measure → Seat → BySuit
greatest_totals k m q = record {
  spades = greatest_told k (counts.SuitTotal m q Spades);
  hearts = greatest_told k (counts.SuitTotal m q Hearts);
  diamonds = greatest_told k (counts.SuitTotal m q Diamonds);
  clubs = greatest_told k (counts.SuitTotal m q Clubs);
}

-- by the counts of the suits that make it
abbrev pub least_made : Facts → Count → ℕ
least_made k (counts.Ordered o q) = ordered_in o (least_lengths k q)
least_made k (counts.Total m q) = total_in (least_totals k m q)
least_made k _ = 0

abbrev pub greatest_made : Facts → Count → ℕ
greatest_made k (counts.Ordered o q) = ordered_in o (greatest_lengths k q)
greatest_made k (counts.Total m q) = total_in (greatest_totals k m q)
greatest_made k c = greatest_count c

-- the facts tell exactly how much is counted
abbrev pub is_told : Facts → Count → Bool
is_told k c = nat_le (greatest_told k c) (least_told k c)

-- by both, unless the facts tell it exactly
unfoldable pub least_by : Facts → Count → ℕ
least_by k c = if is_told k c then least_told k c else max (least_told k c) (least_made k c)

unfoldable pub greatest_by : Facts → Count → ℕ
greatest_by k c =
    if is_told k c then greatest_told k c else min (greatest_told k c) (greatest_made k c)
