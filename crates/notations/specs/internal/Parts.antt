-- The parts of a record's line as they are written.
use Rattle.std.specs.Prelude.{ℕ, ◌-◌, max, Bool, List, [], ◌++◌, Option, Some, None, codes}
use Rattle.cards.specs.declared.suit.Suit.{Suit}
use Rattle.notations.specs.Columns.{spaces}
use Rattle.notations.specs.Records.{suit_text}

-- a suit of a hand that is shown
abbrev pub shown_suit : Option (List Bool) → Suit → List ℕ
shown_suit None suit = []
shown_suit (Some hand) suit = suit_text hand suit

-- what follows the first part of a line, with a suit at a column if the hand is shown
abbrev pub rest_of_line : ℕ → ℕ → Option (List Bool) → Suit → List ℕ
rest_of_line column used None suit = codes "\n"
rest_of_line column used (Some hand) suit =
    spaces (max 1 (column - used)) ++ suit_text hand suit ++ codes "\n"
