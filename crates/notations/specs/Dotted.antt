-- A deal as PBN and JSON write it, with the hands that are shown.
use Rattle.std.specs.Prelude.{ℕ, Bool, List, ◌++◌, Option, Some, None, codes}
use Rattle.cards.specs.declared.seat.Seat.{Seat}
use Rattle.cards.specs.declared.seat.Seat.TheVariants.{North, East, South, West}
use Rattle.cards.specs.declared.suit.Suit.{Suit}
use Rattle.boards.specs.Letters.{suit_letters}
use Rattle.pbn_text.specs.Games.{hand_text}

-- the ranks of a suit, and a dot
abbrev pub dotted : List Bool → Suit → List ℕ
dotted hand suit = suit_letters hand suit ++ codes "."

-- a hand as PBN has it, or a dash
abbrev pub hand_value : Option (List Bool) → List ℕ
hand_value None = codes "-"
hand_value (Some hand) = hand_text hand

-- the hands of North, East, South and West
abbrev pub deal_value : (Seat → Option (List Bool)) → List ℕ
deal_value hand =
    codes "N:"
    ++ hand_value (hand North) ++ codes " "
    ++ hand_value (hand East) ++ codes " "
    ++ hand_value (hand South) ++ codes " "
    ++ hand_value (hand West)
