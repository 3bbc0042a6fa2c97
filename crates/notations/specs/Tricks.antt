-- The tricks and par of a board, as formats write them.
use Rattle.std.specs.Prelude.{ℕ, ◌-◌, nat_le, List, [], ◌∷◌, ◌++◌, Option, codes, drop, take}
use Rattle.std.specs.Prelude.{if◌then◌else◌, unwrap_or}
use Rattle.cards.specs.declared.seat.Seat.{Seat}
use Rattle.cards.specs.declared.seat.Seat.TheVariants.{North, East, South, West}
use Rattle.boards.specs.TricksLines.{TricksView, nothing_known}

-- what is written where tricks may be given
abbrev pub or_nothing : Option TricksView → TricksView
or_nothing tricks = unwrap_or tricks nothing_known

-- a text between two others, or nothing at all where there is none
abbrev pub if_given : List ℕ → List ℕ → List ℕ → List ℕ
if_given before [] after = []
if_given before (x ∷ text) after = before ++ (x ∷ text) ++ after

-- a score and its contract, if there is one
abbrev pub scored : List ℕ → List ℕ → List ℕ
scored [] contract = []
scored (x ∷ score) contract = (x ∷ score) ++ if_given (codes " ") contract []

-- par: the score, and a contract that scores it
abbrev pub par_text : TricksView → List ℕ
par_text tricks = scored tricks.score tricks.contract

-- the number that a digit says: 0 to 9, and a to d for 10 to 13
abbrev pub number_of : ℕ → ℕ
number_of digit = if nat_le digit 0x39 then digit - 0x30 else digit - 0x57

-- the five digits of a declarer, among the twenty of a board: in notrump, spades, hearts, diamonds
-- and clubs
abbrev pub five_of : Seat → List ℕ → List ℕ
five_of North digits = take 5 digits
five_of South digits = take 5 (drop 5 digits)
five_of East digits = take 5 (drop 10 digits)
five_of West digits = take 5 (drop 15 digits)
