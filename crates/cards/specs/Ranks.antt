-- The ranks of a suit that a hand has.
use Rattle.std.specs.Prelude.{ℕ, ◌+◌, ◌*◌, Bool, List, map}
use Rattle.std.specs.List.{range_with_len}
use Rattle.cards.specs.declared.suit.Suit.{Suit}
use Rattle.cards.specs.Pack.{suit_number}
use Rattle.cards.specs.Hands.{holds_card}

-- whether the hand has the rank of the suit
abbrev pub has_rank : List Bool → Suit → ℕ → Bool
has_rank hand suit rank = holds_card hand (13 * suit_number suit + rank)

-- which of the suit's thirteen ranks the hand has, the ace first
abbrev pub ranks_of : List Bool → Suit → List Bool
ranks_of hand suit = map (has_rank hand suit) (range_with_len 0 13)
