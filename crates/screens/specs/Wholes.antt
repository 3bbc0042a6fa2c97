-- Wholes: four counts of which it is known how much they are together.
use Rattle.std.specs.Prelude.{◌≤◌, ℕ, ◌+◌, ◌*◌, ◌/◌, ◌%◌, ◌==◌, List, Option, option_map, sum}
use Rattle.std.specs.Prelude.{unwrap_or}
use Rattle.cards.specs.declared.hand.Measure.{Measure}
use Rattle.cards.specs.declared.honours.Honours.{Honours}
use Rattle.cards.specs.declared.seat.Seat.{Seat}
use Rattle.cards.specs.declared.seat.Seat.TheVariants.{North, East, South, West}
use Rattle.cards.specs.declared.suit.Suit.{Suit}
use Rattle.cards.specs.declared.suit.Suit.TheVariants.{Spades, Hearts, Diamonds, Clubs}
use Rattle.cards.specs.Measures.{weights_of}
use Rattle.conditions.specs.declared.tree.Count.TheVariants as counts
use Rattle.conditions.specs.Bounds.{rank_count}
use Rattle.conditions.specs.Meaning.{count_in}
use Rattle.screens.specs.declared.unmet.facts.Facts.{Facts}
use Rattle.screens.specs.declared.unmet.wholes.Whole.{Whole}
use Rattle.screens.specs.Held.{fact_on}

-- the counts of a deal are together what the whole says
abbrev pub together : List Seat → Whole → ℕ
together deal w =
    count_in deal w.first + count_in deal w.second + count_in deal w.third
    + count_in deal w.fourth

pub record IsWholeOf (deal : List Seat) (w : Whole) : Type 0 where
  pub low : w.least ≤ together deal w
  pub high : together deal w ≤ w.most

-- what fixed cards tell of the four
abbrev pub facts_on : List (Option Seat) → Whole → Facts
facts_on fixed w = record {
  first = fact_on fixed w.first;
  second = fact_on fixed w.second;
  third = fact_on fixed w.third;
  fourth = fact_on fixed w.fourth;
}

-- ---- the suits of a hand

abbrev pub hand_shape : Seat → Whole
hand_shape q = record {
  first = counts.Length q Spades;
  second = counts.Length q Hearts;
  third = counts.Length q Diamonds;
  fourth = counts.Length q Clubs;
  least = 13;
  most = 13;
}

abbrev pub hand_measure : Measure → Seat → Whole
hand_measure m q = record {
  first = counts.SuitTotal m q Spades;
  second = counts.SuitTotal m q Hearts;
  third = counts.SuitTotal m q Diamonds;
  fourth = counts.SuitTotal m q Clubs;
  least = 0;
  most = 40;
}

-- ---- the seats

abbrev pub suit_lengths : Suit → Whole
suit_lengths s = record {
  first = counts.Length North s;
  second = counts.Length East s;
  third = counts.Length South s;
  fourth = counts.Length West s;
  least = 13;
  most = 13;
}

-- what an ace, a king, a queen and a jack count together, if the measure counts ranks
abbrev pub total_weight : Measure → ℕ
total_weight m = unwrap_or (option_map sum (weights_of m)) 0

abbrev pub pack_measure : Measure → Whole
pack_measure m = record {
  first = counts.Total m North;
  second = counts.Total m East;
  third = counts.Total m South;
  fourth = counts.Total m West;
  least = 4 * total_weight m;
  most = 4 * total_weight m;
}

abbrev pub suit_measure : Measure → Suit → Whole
suit_measure m s = record {
  first = counts.SuitTotal m North s;
  second = counts.SuitTotal m East s;
  third = counts.SuitTotal m South s;
  fourth = counts.SuitTotal m West s;
  least = total_weight m;
  most = total_weight m;
}

abbrev pub pack_ranks : Honours → Whole
pack_ranks h = record {
  first = counts.Cards North h;
  second = counts.Cards East h;
  third = counts.Cards South h;
  fourth = counts.Cards West h;
  least = 4 * rank_count h;
  most = 4 * rank_count h;
}

abbrev pub suit_ranks : Honours → Suit → Whole
suit_ranks h s = record {
  first = counts.SuitCards North s h;
  second = counts.SuitCards East s h;
  third = counts.SuitCards South s h;
  fourth = counts.SuitCards West s h;
  least = rank_count h;
  most = rank_count h;
}

-- the set of honours of a number: 16 of it are the ace, 8 the king, and so on
abbrev pub honours_by : ℕ → Honours
honours_by n = record {
  ace = n / 16 % 2 == 1;
  king = n / 8 % 2 == 1;
  queen = n / 4 % 2 == 1;
  jack = n / 2 % 2 == 1;
  ten = n % 2 == 1;
}
