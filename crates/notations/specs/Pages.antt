-- One page of HTML that needs nothing else: a header with the title and the style, a section for
-- each board, and a footer that closes what the header opened.
use Rattle.std.specs.Prelude.{ℕ, ◌==◌, ◌||◌, Bool, false, List, [], ◌∷◌, ◌++◌, Option, Some, None}
use Rattle.std.specs.Prelude.{bytes_eq, codes, decimal, flat_map, if◌then◌else◌}
use Rattle.std.specs.List.{list_all}
use Rattle.cards.specs.declared.seat.Seat.{Seat}
use Rattle.cards.specs.declared.seat.Seat.TheVariants.{North, East, South, West}
use Rattle.cards.specs.declared.suit.Suit.{Suit}
use Rattle.cards.specs.declared.suit.Suit.TheVariants.{Spades, Hearts, Diamonds, Clubs}
use Rattle.cards.specs.Hands.{points_of}
use Rattle.boards.specs.declared.board.Board.{Board}
use Rattle.boards.specs.declared.setting.Vul.{Vul}
use Rattle.boards.specs.Html.{body_start, html_start}
use Rattle.boards.specs.Letters.{or_dash, suit_letters}
use Rattle.pbn_text.specs.Games.{HeadingView, dealer_text, vulnerable_text}
use Rattle.boards.specs.declared.show.Show.{Show}
use Rattle.notations.specs.Names.{seat_name}
use Rattle.boards.specs.Show.{counted_in, hand_in}
use Rattle.notations.specs.Tricks.{five_of, if_given, number_of}
use Rattle.boards.specs.TricksLines.{TricksView}

-- ---- the title

-- nothing but spaces
abbrev pub is_blank : List ℕ → Bool
is_blank text = list_all (λ byte. byte == 0x20) text

-- a label given and has something to be seen
abbrev pub shown : Option (List ℕ) → List ℕ
shown None = []
shown (Some text) = if is_blank text then [] else text

-- one text and the other, with a comma and a space between them if neither is empty
abbrev pub joined : List ℕ → List ℕ → List ℕ
joined [] right = right
joined (x ∷ left) [] = x ∷ left
joined (x ∷ left) (y ∷ right) = (x ∷ left) ++ codes ", " ++ y ∷ right

abbrev pub or_boards : List ℕ → List ℕ
or_boards [] = codes "Boards"
or_boards (x ∷ title) = x ∷ title

-- event, site and date
abbrev pub title_of : HeadingView → List ℕ
title_of heading =
    or_boards (joined (joined (shown heading.event) (shown heading.site)) (shown heading.date))

-- ---- the header

-- the title, a style, and the title again as the heading
unfoldable pub header_text : (List ℕ → List ℕ) → HeadingView → List ℕ
header_text style heading =
    html_start (title_of heading) ++ style (title_of heading) ++ body_start (title_of heading)

-- ---- a board

-- the sign of a suit, ♠, ♥, ♦ or ♣, which is a character of three bytes; the style has <b> in red
abbrev pub sign : Suit → List ℕ
sign Spades = codes "<i>" ++ 0xE2 ∷ 0x99 ∷ 0xA0 ∷ codes "</i>"
sign Hearts = codes "<b>" ++ 0xE2 ∷ 0x99 ∷ 0xA5 ∷ codes "</b>"
sign Diamonds = codes "<b>" ++ 0xE2 ∷ 0x99 ∷ 0xA6 ∷ codes "</b>"
sign Clubs = codes "<i>" ++ 0xE2 ∷ 0x99 ∷ 0xA3 ∷ codes "</i>"

-- the dash –, a character of three bytes
abbrev pub dash : List ℕ
dash = 0xE2 ∷ 0x80 ∷ 0x93 ∷ []

-- a suit of a hand: its sign, and its ranks from the ace down or a dash
abbrev pub suit_text : List Bool → Suit → List ℕ
suit_text hand suit = sign suit ++ or_dash dash (suit_letters hand suit)

-- its four suits, each on a line of its own
abbrev pub suits_text : List Bool → List ℕ
suits_text hand =
    suit_text hand Spades ++ codes "<br>"
    ++ suit_text hand Hearts ++ codes "<br>"
    ++ suit_text hand Diamonds ++ codes "<br>"
    ++ suit_text hand Clubs

-- the points of a hand, if they are written
unfoldable pub count_text : Option (List Bool) → List ℕ
count_text None = []
count_text (Some hand) =
    codes " <small>" ++ decimal (points_of hand) ++ codes " HCP</small>"

-- the seat of a hand
unfoldable pub seat_text : Seat → List ℕ
seat_text seat =
    codes "<div class=\"" ++ seat_name seat ++ codes "\"><h3>" ++ seat_name seat

-- the hand in a seat, if it is shown: the seat, its points if they are written, and the suits
unfoldable pub hand_text : Seat → Option (List Bool) → Option (List Bool) → List ℕ
hand_text seat None counted = []
hand_text seat (Some hand) counted =
    seat_text seat ++ count_text counted ++ codes "</h3>" ++ suits_text hand ++ codes "</div>\n"

-- the hands that are shown
abbrev pub hands_text
    : (Seat → Option (List Bool)) → (Seat → Option (List Bool)) → List ℕ
hands_text hand counted =
    hand_text North (hand North) (counted North)
    ++ hand_text East (hand East) (counted East)
    ++ hand_text South (hand South) (counted South)
    ++ hand_text West (hand West) (counted West)

-- the board's number, on the table
unfoldable pub number_text : Vul → ℕ → List ℕ
number_text vulnerable number =
    codes "<h2 class=\"" ++ vulnerable_text vulnerable
    ++ codes "\">Board " ++ decimal number ++ codes "</h2>\n"

-- who deals, and which sides are vulnerable
unfoldable pub facts_text : Seat → Vul → List ℕ
facts_text dealer vulnerable =
    codes "<p>Dealer " ++ seat_name dealer
    ++ codes "<br>Vul " ++ vulnerable_text vulnerable ++ codes "</p>\n"

-- ---- tricks

-- the denominations, at the head of the table
unfoldable pub table_head : List ℕ
table_head =
    codes "<table>\n<tr><td></td><th>NT</th><th>" ++ sign Spades ++ codes "</th><th>" ++ sign Hearts
    ++ codes "</th><th>" ++ sign Diamonds ++ codes "</th><th>" ++ sign Clubs
    ++ codes "</th></tr>\n"

abbrev pub cell_text : ℕ → List ℕ
cell_text digit = codes "<td>" ++ decimal (number_of digit) ++ codes "</td>"

-- what follows who declares in a row of the table: the five numbers of tricks
unfoldable pub cells_text : List ℕ → List ℕ
cells_text five = codes "</th>" ++ flat_map cell_text five ++ codes "</tr>\n"

abbrev pub row_text : List ℕ → List ℕ → List ℕ
row_text who five = codes "<tr><th>" ++ who ++ cells_text five

-- the row of two partners who make the same, or a row for each of them
unfoldable pub side_rows : Seat → Seat → List ℕ → List ℕ
side_rows one other digits =
    if bytes_eq (five_of one digits) (five_of other digits)
    then row_text (dealer_text one ++ dealer_text other) (five_of one digits)
    else row_text (dealer_text one) (five_of one digits)
    ++ row_text (dealer_text other) (five_of other digits)

-- the table of the tricks, or nothing where they aren't known
unfoldable pub table_text : List ℕ → List ℕ
table_text [] = []
table_text (x ∷ digits) =
    table_head
    ++ side_rows North South (x ∷ digits)
    ++ side_rows East West (x ∷ digits)
    ++ codes "</table>\n"

-- A contract of par is a level, a denomination, perhaps `*`, a hyphen, who plays it, and what it
-- makes, as in 4S*-EW-3; a comma is before another. `played` says that its first hyphen has come.

-- the letter of a suit is its sign
unfoldable pub suit_mark : ℕ → List ℕ
suit_mark letter =
    if letter == 0x53 then sign Spades
    else if letter == 0x48 then sign Hearts
    else if letter == 0x44 then sign Diamonds
    else if letter == 0x43 then sign Clubs
    else letter ∷ []

-- the hyphen before how many tricks lack is minus, −
unfoldable pub result_mark : ℕ → List ℕ
result_mark letter = if letter == 0x2D then 0xE2 ∷ 0x88 ∷ 0x92 ∷ [] else letter ∷ []

-- a letter of a contract as it is written; a double is ×, and a comma ends what isn't broken
unfoldable pub mark : Bool → ℕ → List ℕ
mark played letter =
    if letter == 0x2A then 0xC3 ∷ 0x97 ∷ []
    else if letter == 0x2C then codes ",</span><span>"
    else if played then result_mark letter
    else suit_mark letter

-- whether it is played after this letter
abbrev pub played_after : Bool → ℕ → Bool
played_after played letter =
    if letter == 0x2C then false else (letter == 0x2D || played)

-- the letters and signs of contracts
abbrev pub marks : Bool → List ℕ → List ℕ
marks played [] = []
marks played (letter ∷ contract) =
    mark played letter ++ marks (played_after played letter) contract

-- contracts, if there are any, after a space
unfoldable pub marked_contract : List ℕ → List ℕ
marked_contract [] = []
marked_contract (letter ∷ contract) =
    codes " <span>" ++ marks false (letter ∷ contract) ++ codes "</span>"

-- the score of par and its contracts, or nothing where it isn't known
abbrev pub marked_par : List ℕ → List ℕ → List ℕ
marked_par [] contract = []
marked_par (letter ∷ score) contract = (letter ∷ score) ++ marked_contract contract

-- the table, and par
abbrev pub tricks_text : TricksView → List ℕ
tricks_text tricks =
    table_text tricks.digits
    ++ if_given (codes "<p class=\"par\">Par ") (marked_par tricks.score tricks.contract)
    (codes "</p>\n")

-- ---- a board's section

-- what the board is, its four hands, and what is known of the tricks
unfoldable pub board_text : Show → TricksView → Board → List ℕ
board_text show tricks board =
    codes "<section class=\"board\">\n"
    ++ number_text board.vulnerable board.number
    ++ facts_text board.dealer board.vulnerable
    ++ hands_text (hand_in show board) (counted_in show board)
    ++ tricks_text tricks
    ++ codes "</section>\n"
