-- Hand records for print: a header of labels, and for each board twelve lines and an empty one.
use Rattle.std.specs.Prelude.{ℕ, Bool, List, [], ◌∷◌, ◌++◌, Option, Some, None, codes, decimal}
use Rattle.cards.specs.declared.seat.Seat.{Seat}
use Rattle.cards.specs.declared.seat.Seat.TheVariants.{North, East, South, West}
use Rattle.cards.specs.declared.suit.Suit.{Suit}
use Rattle.cards.specs.declared.suit.Suit.TheVariants.{Spades, Hearts, Diamonds, Clubs}
use Rattle.cards.specs.Hands.{points_of}
use Rattle.boards.specs.declared.board.Board.{Board}
use Rattle.boards.specs.Letters.{or_dash, suit_letters}
use Rattle.pbn_text.specs.Games.{HeadingView, dealer_text, vulnerable_text}
use Rattle.std.specs.List.{flat_map}
use Rattle.boards.specs.declared.show.Show.{Show}
use Rattle.notations.specs.Columns.{beside, line, spaces, two_columns}
use Rattle.notations.specs.Names.{seat_name}
use Rattle.boards.specs.Show.{counted_in, hand_in}
use Rattle.notations.specs.Tricks.{five_of, if_given, number_of, par_text}
use Rattle.boards.specs.TricksLines.{TricksView}

-- the sign of a suit, ♠, ♥, ♦ or ♣, which is a character of three bytes, and a space
abbrev pub sign_and_space : Suit → List ℕ
sign_and_space Spades = 0xE2 ∷ 0x99 ∷ 0xA0 ∷ codes " "
sign_and_space Hearts = 0xE2 ∷ 0x99 ∷ 0xA5 ∷ codes " "
sign_and_space Diamonds = 0xE2 ∷ 0x99 ∷ 0xA6 ∷ codes " "
sign_and_space Clubs = 0xE2 ∷ 0x99 ∷ 0xA3 ∷ codes " "

-- a suit of a hand: its sign, a space, and its ranks from the ace down or a dash
abbrev pub suit_text : List Bool → Suit → List ℕ
suit_text hand suit = sign_and_space suit ++ or_dash (codes "-") (suit_letters hand suit)

-- the points of one hand, whose last digit is at column 7; nothing for one that isn't shown
abbrev pub one_count : Option (List Bool) → List ℕ
one_count None = []
one_count (Some hand) = spaces 6 ++ two_columns (points_of hand)

-- the points of West and East, whose last digits are at columns 3 and 11
abbrev pub two_counts : Option (List Bool) → Option (List Bool) → List ℕ
two_counts None None = []
two_counts (Some west) None = spaces 2 ++ two_columns (points_of west)
two_counts None (Some east) = spaces 10 ++ two_columns (points_of east)
two_counts (Some west) (Some east) =
    spaces 2 ++ two_columns (points_of west) ++ spaces 6 ++ two_columns (points_of east)

-- a line of what is before column 18, and a suit of a hand that is shown
unfoldable pub suit_line : List ℕ → Option (List Bool) → Suit → List ℕ
suit_line left None suit = line left
suit_line left (Some hand) suit = beside 18 left (suit_text hand suit)

-- a line of a suit of West's and of East's
unfoldable pub side_line : Option (List Bool) → Option (List Bool) → Suit → List ℕ
side_line None None suit = line []
side_line (Some west) None suit = line (suit_text west suit)
side_line None (Some east) suit = beside 36 [] (suit_text east suit)
side_line (Some west) (Some east) suit = beside 36 (suit_text west suit) (suit_text east suit)

-- the line of the board's number and North's spades
abbrev pub number_line : ℕ → Option (List Bool) → List ℕ
number_line number north = suit_line (codes "Board " ++ decimal number) north Spades

-- North's suits, with the board's number, dealer and vulnerability
abbrev pub north_lines : Board → Option (List Bool) → List ℕ
north_lines board north =
    number_line board.number north
    ++ suit_line (codes "Dealer " ++ seat_name board.dealer) north Hearts
    ++ suit_line (codes "Vul " ++ vulnerable_text board.vulnerable) north Diamonds
    ++ suit_line [] north Clubs

-- West's suits and East's
abbrev pub side_lines : Option (List Bool) → Option (List Bool) → List ℕ
side_lines west east =
    side_line west east Spades
    ++ side_line west east Hearts
    ++ side_line west east Diamonds
    ++ side_line west east Clubs

-- South's suits, with the points of all that are counted: North's above, West's and East's, South's
-- below
abbrev pub south_lines : Option (List Bool) → (Seat → Option (List Bool)) → List ℕ
south_lines south counted =
    suit_line [] south Spades
    ++ suit_line (one_count (counted North)) south Hearts
    ++ suit_line (two_counts (counted West) (counted East)) south Diamonds
    ++ suit_line (one_count (counted South)) south Clubs

-- ---- tricks

-- the denominations, set right: NT, ♠, ♥, ♦ and ♣
unfoldable pub head_line : List ℕ
head_line =
    codes "     NT  " ++ 0xE2 ∷ 0x99 ∷ 0xA0 ∷ codes "  " ++ 0xE2 ∷ 0x99 ∷ 0xA5 ∷ codes "  "
    ++ 0xE2 ∷ 0x99 ∷ 0xA6 ∷ codes "  " ++ 0xE2 ∷ 0x99 ∷ 0xA3 ∷ codes "\n"

-- the number of tricks in a column of the table
abbrev pub cell_text : ℕ → List ℕ
cell_text digit = codes " " ++ two_columns (number_of digit)

-- a declarer's letter, and the five numbers, set right under the denominations
unfoldable pub declarer_line : Seat → List ℕ → List ℕ
declarer_line declarer five = line (dealer_text declarer ++ spaces 3 ++ flat_map cell_text five)

-- the table of the tricks, or nothing where they aren't known
unfoldable pub table_lines : List ℕ → List ℕ
table_lines [] = []
table_lines (x ∷ digits) =
    head_line
    ++ declarer_line North (five_of North (x ∷ digits))
    ++ declarer_line South (five_of South (x ∷ digits))
    ++ declarer_line East (five_of East (x ∷ digits))
    ++ declarer_line West (five_of West (x ∷ digits))

-- the table, and par
abbrev pub tricks_lines : TricksView → List ℕ
tricks_lines tricks =
    table_lines tricks.digits ++ if_given (codes "Par ") (par_text tricks) (codes "\n")

-- ---- a record

-- a board's twelve lines, those of the tricks, and an empty one
unfoldable pub record_text : Show → TricksView → Board → List ℕ
record_text show tricks board =
    north_lines board (hand_in show board North)
    ++ side_lines (hand_in show board West) (hand_in show board East)
    ++ south_lines (hand_in show board South) (counted_in show board)
    ++ tricks_lines tricks
    ++ line []

-- the line of a label, if it is given
abbrev pub label_line : Option (List ℕ) → List ℕ
label_line None = []
label_line (Some text) = line text

-- an empty line after the others, if there are any
abbrev pub set_off : List ℕ → List ℕ
set_off [] = []
set_off lines = lines ++ line []

-- a line for each label given: event, site and date
abbrev pub header_text : HeadingView → List ℕ
header_text heading =
    set_off (label_line heading.event ++ label_line heading.site ++ label_line heading.date)
