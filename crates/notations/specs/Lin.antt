-- LIN, as BBO and its kin read it: a line a board, without header and footer.
use Rattle.std.specs.Prelude.{ℕ, Bool, List, [], ◌++◌, Option, Some, None, codes, decimal}
use Rattle.cards.specs.declared.seat.Seat.{Seat}
use Rattle.cards.specs.declared.seat.Seat.TheVariants.{North, East, South, West}
use Rattle.cards.specs.declared.suit.Suit.TheVariants.{Spades, Hearts, Diamonds, Clubs}
use Rattle.boards.specs.declared.board.Board.{Board}
use Rattle.boards.specs.declared.setting.Vul.{Vul}
use Rattle.boards.specs.declared.setting.Vul.TheVariants.{Neither, NorthSouth, EastWest, Both}
use Rattle.boards.specs.Letters.{suit_letters}
use Rattle.boards.specs.declared.show.Show.{Show}
use Rattle.boards.specs.Show.{hand_in}

-- the seats are numbered clockwise from South, 1 to 4
abbrev pub dealer_digit : Seat → List ℕ
dealer_digit South = codes "1"
dealer_digit West = codes "2"
dealer_digit North = codes "3"
dealer_digit East = codes "4"

abbrev pub vulnerable_letter : Vul → List ℕ
vulnerable_letter Neither = codes "o"
vulnerable_letter NorthSouth = codes "n"
vulnerable_letter EastWest = codes "e"
vulnerable_letter Both = codes "b"

-- each suit's letter and its ranks, the ace first; a void is its letter alone
abbrev pub hand_text : List Bool → List ℕ
hand_text hand =
    codes "S" ++ suit_letters hand Spades
    ++ codes "H" ++ suit_letters hand Hearts
    ++ codes "D" ++ suit_letters hand Diamonds
    ++ codes "C" ++ suit_letters hand Clubs

-- nothing for a hand that isn't shown
abbrev pub shown_text : Option (List Bool) → List ℕ
shown_text None = []
shown_text (Some hand) = hand_text hand

-- South's hand, West's, North's and East's
abbrev pub deal_text : (Seat → Option (List Bool)) → List ℕ
deal_text hand =
    shown_text (hand South) ++ codes ","
    ++ shown_text (hand West) ++ codes ","
    ++ shown_text (hand North) ++ codes ","
    ++ shown_text (hand East)

-- the board's number, its dealer and hands, its vulnerability, and its name
unfoldable pub lin_line : Show → Board → List ℕ
lin_line show board =
    codes "qx|o" ++ decimal board.number
    ++ codes "|md|" ++ dealer_digit board.dealer ++ deal_text (hand_in show board)
    ++ codes "|sv|" ++ vulnerable_letter board.vulnerable
    ++ codes "|ah|Board " ++ decimal board.number
    ++ codes "|pg||\n"
