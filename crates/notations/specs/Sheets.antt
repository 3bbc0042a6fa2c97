-- A club's sheet of hand records: a page of HTML like the other, with a section of its own for each
-- board, small enough for eighteen on a sheet of paper.
use Rattle.std.specs.Prelude.{ℕ, Bool, List, [], ◌++◌, Option, Some, None, codes, decimal}
use Rattle.cards.specs.declared.seat.Seat.{Seat}
use Rattle.cards.specs.declared.seat.Seat.TheVariants.{North, East, South, West}
use Rattle.cards.specs.Hands.{points_of}
use Rattle.boards.specs.declared.board.Board.{Board}
use Rattle.boards.specs.declared.setting.Vul.{Vul}
use Rattle.boards.specs.declared.show.Show.{Show}
use Rattle.notations.specs.Names.{seat_name}
use Rattle.pbn_text.specs.Games.{vulnerable_text}
use Rattle.notations.specs.Pages.{facts_text, suits_text, tricks_text}
use Rattle.boards.specs.Show.{counted_in, hand_in}
use Rattle.boards.specs.TricksLines.{TricksView}

-- the board's number
unfoldable pub number_text : ℕ → List ℕ
number_text number = codes "<h2>" ++ decimal number ++ codes "</h2>\n"

-- the suits of the hand in a seat, if it is shown
unfoldable pub hand_text : Seat → Option (List Bool) → List ℕ
hand_text seat None = []
hand_text seat (Some hand) =
    codes "<div class=\"" ++ seat_name seat ++ codes "\">" ++ suits_text hand ++ codes "</div>\n"

-- the hands that are shown
abbrev pub hands_text : (Seat → Option (List Bool)) → List ℕ
hands_text hand =
    hand_text North (hand North)
    ++ hand_text East (hand East)
    ++ hand_text South (hand South)
    ++ hand_text West (hand West)

-- the points of a hand, if they are written
unfoldable pub points_text : Seat → Option (List Bool) → List ℕ
points_text seat None = []
points_text seat (Some hand) =
    codes "<span class=\"" ++ seat_name seat ++ codes "\">" ++ decimal (points_of hand)
    ++ codes "</span>"

-- the points that are written
abbrev pub all_points : (Seat → Option (List Bool)) → List ℕ
all_points counted =
    points_text North (counted North)
    ++ points_text East (counted East)
    ++ points_text South (counted South)
    ++ points_text West (counted West)

-- these, in their seats around the table
unfoldable pub middle_text : Vul → (Seat → Option (List Bool)) → List ℕ
middle_text vulnerable counted =
    codes "<div class=\"middle " ++ vulnerable_text vulnerable ++ codes "\">"
    ++ all_points counted ++ codes "</div>\n"

-- a section of what the board is, its four hands, their points, and what is known of the tricks
unfoldable pub section_text : Show → TricksView → Board → List ℕ
section_text show tricks board =
    codes "<section class=\"board\">\n"
    ++ number_text board.number
    ++ facts_text board.dealer board.vulnerable
    ++ hands_text (hand_in show board)
    ++ middle_text board.vulnerable (counted_in show board)
    ++ tricks_text tricks
    ++ codes "</section>\n"
