-- The texts that are ready for each dealer and vulnerability.
use Rattle.std.proofs.Common.{◌≡◌, ℕ, ◌≤◌, List, [], get_or, length, take, refl, arith}
use Rattle.cards.specs.declared.seat.Seat.{Seat}
use Rattle.cards.specs.declared.seat.Seat.TheVariants.{North, East, South, West}
use Rattle.cards.specs.Pack.{seat_number}
use Rattle.boards.specs.declared.setting.Vul.{Vul}
use Rattle.boards.specs.declared.setting.Vul.TheVariants.{Neither}
use Rattle.pbn_text.specs.declared.lines.TheConstants.{DEALER_AND_VULNERABLE, LENGTHS}
use Rattle.pbn_text.specs.internal.Lines.{board_lines, vulnerability_number}

-- the text of a dealer and a vulnerability
abbrev stored : Seat → Vul → List ℕ
stored dealer sides = get_or (get_or DEALER_AND_VULNERABLE (seat_number dealer) []) (vulnerability_number sides) []

stored_is : (dealer : Seat) (sides : Vul) → take (get_or LENGTHS (vulnerability_number sides) 0) (stored dealer sides) ≡ board_lines dealer sides
stored_is North Neither = refl
stored_is East Neither = refl
stored_is South Neither = refl
stored_is West Neither = refl
stored_is dealer sides = refl

length-stored : (dealer : Seat) (sides : Vul) → length (stored dealer sides) ≡ 48
length-stored North Neither = refl
length-stored East Neither = refl
length-stored South Neither = refl
length-stored West Neither = refl
length-stored dealer sides = refl

few : (sides : Vul) → get_or LENGTHS (vulnerability_number sides) 0 ≤ 45
few Neither = omega arith
few x = omega arith

-- the same in the row of the dealer and the column of the vulnerability
pub board_lines_at : (dealer : Seat) (sides : Vul) (row column : ℕ) → row ≡ seat_number dealer
    → column ≡ vulnerability_number sides → take (get_or LENGTHS column 0)
    (get_or (get_or DEALER_AND_VULNERABLE row []) column []) ≡ board_lines dealer sides
board_lines_at dealer sides row column at over = rw (at, over) (stored_is dealer sides)

pub length-board_lines : (dealer : Seat) (sides : Vul) (row column : ℕ) → row ≡ seat_number dealer
    → column ≡ vulnerability_number sides → length (get_or (get_or DEALER_AND_VULNERABLE row []) column []) ≡ 48
length-board_lines dealer sides row column at over = rw (at, over) (length-stored dealer sides)

pub board_lines_fit : (sides : Vul) (column : ℕ) → column ≡ vulnerability_number sides → get_or LENGTHS column 0 ≤ 45
board_lines_fit sides column over = rw over (few sides)
