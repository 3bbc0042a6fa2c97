-- A game as it is written: tag lines by their openings, and the parts that a printer copies.
use Rattle.std.specs.Prelude.{ℕ, List, [], ◌++◌, Option, Some, None, codes}
use Rattle.cards.specs.declared.seat.Seat.{Seat}
use Rattle.cards.specs.declared.seat.Seat.TheVariants.{North, East, South, West}
use Rattle.cards.specs.Hands.{hand_of}
use Rattle.boards.specs.declared.setting.Vul.{Vul}
use Rattle.boards.specs.declared.setting.Vul.TheVariants.{Neither, NorthSouth, EastWest, Both}
use Rattle.pbn_text.specs.Games.{HeadingView, heading_text, tag, dealer_text}
use Rattle.pbn_text.specs.Games.{vulnerable_text, hand_text, deal_text}

-- the end of each tag line
abbrev pub closing : List ℕ
closing = codes "\"]\n"

abbrev pub line : List ℕ → List ℕ → List ℕ
line opening value = opening ++ value ++ closing

-- the line of a label, if it is given
abbrev pub label_line : List ℕ → Option (List ℕ) → List ℕ
label_line opening None = []
label_line opening (Some value) = line opening value

-- the line of the deal and the empty line
abbrev pub deal_line : List Seat → List ℕ
deal_line deal = tag (codes "Deal") (deal_text deal) ++ codes "\n"

-- what comes before the board's number
abbrev pub prefix_text : HeadingView → List ℕ
prefix_text heading = heading_text heading ++ codes "[Board \""

-- what comes between the board's number and its first hand
abbrev pub board_lines : Seat → Vul → List ℕ
board_lines dealer sides =
    closing
    ++ line (codes "[Dealer \"") (dealer_text dealer)
    ++ line (codes "[Vulnerable \"") (vulnerable_text sides)
    ++ codes "[Deal \"N:"

-- the four vulnerabilities, numbered
abbrev pub vulnerability_number : Vul → ℕ
vulnerability_number Neither = 0
vulnerability_number NorthSouth = 1
vulnerability_number EastWest = 2
vulnerability_number Both = 3

-- the four hands and the empty line
abbrev pub hands_text : List Seat → List ℕ
hands_text deal =
    hand_text (hand_of deal North) ++ codes " "
    ++ hand_text (hand_of deal East) ++ codes " "
    ++ hand_text (hand_of deal South) ++ codes " "
    ++ hand_text (hand_of deal West)
    ++ codes "\"]\n\n"
