-- Trees that aren't met however some whole is split.
use Rattle.std.specs.Prelude.{◌&&◌, ◌||◌, Bool, true, false, List, [], ◌∷◌, Option}
use Rattle.std.specs.List.{list_any, range_with_len}
use Rattle.cards.specs.declared.hand.Measure.{Measure}
use Rattle.cards.specs.declared.hand.Measure.TheVariants.{Hcp, Controls, Losers}
use Rattle.cards.specs.declared.honours.Honours.{Honours}
use Rattle.cards.specs.declared.seat.Seat.{Seat}
use Rattle.cards.specs.declared.suit.Suit.{Suit}
use Rattle.cards.specs.declared.suit.Suit.TheVariants.{Spades, Hearts, Diamonds, Clubs}
use Rattle.cards.specs.Deals.{all_seats}
use Rattle.conditions.specs.declared.tree.Count.{Count}
use Rattle.conditions.specs.declared.tree.Count.TheVariants as counts
use Rattle.conditions.specs.Form.{Amount, Form, all_of, any_of, compare, counted, negation}
use Rattle.conditions.specs.Form.{number, times, within, sum as plus}
use Rattle.screens.specs.declared.unmet.wholes.Whole.{Whole}
use Rattle.screens.specs.Splits.{is_hopeless}
use Rattle.screens.specs.Wholes.{facts_on, hand_measure, hand_shape, honours_by, pack_measure}
use Rattle.screens.specs.Wholes.{pack_ranks, suit_lengths, suit_measure, suit_ranks}

abbrev pub all_suits : List Suit
all_suits = Spades ∷ Hearts ∷ Diamonds ∷ Clubs ∷ []

-- the tree isn't met however this whole is split
unfoldable pub is_torn_in : List (Option Seat) → Form → Whole → Bool
is_torn_in fixed f w = is_hopeless f 4 w.least w.most (facts_on fixed w)

-- the same of the wholes of one kind: a hand's shape, and a suit
unfoldable pub shapes_tear : List (Option Seat) → Form → Bool
shapes_tear fixed f = list_any (λ q. is_torn_in fixed f (hand_shape q)) all_seats

unfoldable pub suits_tear : List (Option Seat) → Form → Bool
suits_tear fixed f = list_any (λ s. is_torn_in fixed f (suit_lengths s)) all_suits

-- what a hand and a suit count by a measure
unfoldable pub hands_tear : List (Option Seat) → Measure → Form → Bool
hands_tear fixed m f = list_any (λ q. is_torn_in fixed f (hand_measure m q)) all_seats

unfoldable pub suit_measures_tear : List (Option Seat) → Measure → Form → Bool
suit_measures_tear fixed m f = list_any (λ s. is_torn_in fixed f (suit_measure m s)) all_suits

-- the cards of some ranks in a suit
unfoldable pub suit_ranks_tear : List (Option Seat) → Honours → Form → Bool
suit_ranks_tear fixed h f = list_any (λ s. is_torn_in fixed f (suit_ranks h s)) all_suits

-- all that is measured, and all cards of some ranks
unfoldable pub is_torn_by_measure : List (Option Seat) → Measure → Form → Bool
is_torn_by_measure fixed m f =
    is_torn_in fixed f (pack_measure m) || (hands_tear fixed m f || suit_measures_tear fixed m f)

unfoldable pub is_torn_by_ranks : List (Option Seat) → Honours → Form → Bool
is_torn_by_ranks fixed h f = is_torn_in fixed f (pack_ranks h) || suit_ranks_tear fixed h f

unfoldable pub ranks_tear : List (Option Seat) → Form → Bool
ranks_tear fixed f =
    list_any (λ n. is_torn_by_ranks fixed (honours_by n) f) (range_with_len 1 31)

-- the tree asks for cards of some ranks
abbrev pub is_of_ranks : Count → Bool
is_of_ranks (counts.Cards q h) = true
is_of_ranks (counts.SuitCards q s h) = true
is_of_ranks _ = false

abbrev pub counts_ranks : Amount → Bool
counts_ranks (plus a b) = counts_ranks a || counts_ranks b
counts_ranks (number n) = false
counts_ranks (counted c) = is_of_ranks c
counts_ranks (times n c) = is_of_ranks c

abbrev pub asks_ranks : Form → Bool
asks_ranks (any_of a b) = asks_ranks a || asks_ranks b
asks_ranks (all_of a b) = asks_ranks a || asks_ranks b
asks_ranks (negation a) = asks_ranks a
asks_ranks (compare a o b) = counts_ranks a || counts_ranks b
asks_ranks (within a m n) = counts_ranks a
asks_ranks _ = false

-- some whole of these
unfoldable pub is_torn : List (Option Seat) → Form → Bool
is_torn fixed f =
    is_torn_by_measure fixed Hcp f
    || (shapes_tear fixed f
    || (suits_tear fixed f
    || (is_torn_by_measure fixed Controls f
    || (hands_tear fixed Losers f || (asks_ranks f && ranks_tear fixed f)))))
