-- The letters of a suit's cards in a hand.
use Rattle.std.specs.Prelude.{ℕ, Bool, List, [], ◌∷◌, map, filter, codes, slice_index}
use Rattle.std.specs.List.{range_with_len}
use Rattle.cards.specs.declared.suit.Suit.{Suit}
use Rattle.cards.specs.Ranks.{has_rank}

-- the ranks, the ace first
abbrev pub letters : List ℕ
letters = codes "AKQJT98765432"

-- the letters of the ranks that the hand has in the suit, the ace first
unfoldable pub suit_letters : List Bool → Suit → List ℕ
suit_letters hand suit =
    map (slice_index letters) (filter (has_rank hand suit) (range_with_len 0 13))

-- these letters, or a dash where there are none
abbrev pub or_dash : List ℕ → List ℕ → List ℕ
or_dash dash [] = dash
or_dash dash (x ∷ letters) = x ∷ letters
