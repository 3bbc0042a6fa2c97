-- Portable Bridge Notation 2.1 in this project's profile: a text is the header line and the games.
use Rattle.std.specs.Prelude.{ℕ, List, [], ◌++◌, Option, Some, None, Bool, codes, decimal}
use Rattle.cards.specs.declared.seat.Seat.{Seat}
use Rattle.cards.specs.declared.seat.Seat.TheVariants.{North, East, South, West}
use Rattle.cards.specs.declared.suit.Suit.TheVariants.{Spades, Hearts, Diamonds, Clubs}
use Rattle.cards.specs.Hands.{hand_of}
use Rattle.boards.specs.declared.board.Board.{Board}
use Rattle.boards.specs.declared.setting.Vul.{Vul}
use Rattle.boards.specs.declared.setting.Vul.TheVariants.{Neither, NorthSouth, EastWest, Both}
use Rattle.boards.specs.Law2.{board_by_law}
use Rattle.boards.specs.Letters.{suit_letters}
use Rattle.boards.specs.Layouts.{Layout, ends_with}
pub use Rattle.boards.specs.Headings.{HeadingView, no_heading}

abbrev pub header : List ℕ
header = codes "% PBN 2.1\n"

-- the line [NAME "VALUE"]
abbrev pub tag : List ℕ → List ℕ → List ℕ
tag name value = codes "[" ++ name ++ codes " \"" ++ value ++ codes "\"]\n"

-- a label's line, if it is given
abbrev pub label : List ℕ → Option (List ℕ) → List ℕ
label name None = []
label name (Some text) = tag name text

abbrev pub dealer_text : Seat → List ℕ
dealer_text North = codes "N"
dealer_text East = codes "E"
dealer_text South = codes "S"
dealer_text West = codes "W"

abbrev pub vulnerable_text : Vul → List ℕ
vulnerable_text Neither = codes "None"
vulnerable_text NorthSouth = codes "NS"
vulnerable_text EastWest = codes "EW"
vulnerable_text Both = codes "All"

abbrev pub hand_text : List Bool → List ℕ
hand_text hand =
    suit_letters hand Spades ++ codes "."
    ++ suit_letters hand Hearts ++ codes "."
    ++ suit_letters hand Diamonds ++ codes "."
    ++ suit_letters hand Clubs

abbrev pub deal_text : List Seat → List ℕ
deal_text deal =
    codes "N:"
    ++ hand_text (hand_of deal North) ++ codes " "
    ++ hand_text (hand_of deal East) ++ codes " "
    ++ hand_text (hand_of deal South) ++ codes " "
    ++ hand_text (hand_of deal West)

-- the lines of the given labels
abbrev pub heading_text : HeadingView → List ℕ
heading_text heading =
    label (codes "Event") heading.event
    ++ label (codes "Site") heading.site
    ++ label (codes "Date") heading.date

-- the lines of the board's number, dealer and vulnerability
abbrev pub board_text : Board → List ℕ
board_text board =
    tag (codes "Board") (decimal board.number)
    ++ tag (codes "Dealer") (dealer_text board.dealer)
    ++ tag (codes "Vulnerable") (vulnerable_text board.vulnerable)

-- the lines of a board's game, and an empty one
unfoldable pub game_text : HeadingView → Board → List ℕ
game_text heading board =
    heading_text heading
    ++ board_text board
    ++ tag (codes "Deal") (deal_text board.deal)
    ++ codes "\n"

-- the game of the board of this number, with the dealer and the vulnerability of Law 2. It doesn't
-- depend on the number of the candidate, which is 0 here
unfoldable pub game : ℕ → HeadingView → List Seat → List ℕ
game board heading deal = game_text heading (board_by_law board 0 deal)

-- the notation: the header line, a game for each board, and nothing after them
abbrev pub pbn : HeadingView → Layout
pbn heading = record { header = header; board = game_text heading; footer = ends_with [] }
