-- Games of PBN with the hands that are shown and with tricks. Where all hands are shown and no
-- tricks are known, a game is that of the crate pbn_text, by a law.
use Rattle.std.specs.Prelude.{ℕ, List, [], ◌∷◌, ◌++◌, codes, slice_index}
use Rattle.cards.specs.declared.seat.Seat.{Seat}
use Rattle.cards.specs.declared.seat.Seat.TheVariants.{North, East, South, West}
use Rattle.boards.specs.declared.board.Board.{Board}
use Rattle.pbn_text.specs.Games.{HeadingView, board_text, dealer_text, heading_text, tag}
use Rattle.boards.specs.declared.show.Show.{Show}
use Rattle.notations.specs.Columns.{two_columns}
use Rattle.notations.specs.Dotted.{deal_value}
use Rattle.boards.specs.Show.{hand_in}
use Rattle.notations.specs.Tricks.{five_of, if_given, number_of}
use Rattle.boards.specs.TricksLines.{TricksView}

-- the line [NAME "VALUE"], if there is a value
abbrev pub tag_if_given : List ℕ → List ℕ → List ℕ
tag_if_given name value = if_given (codes "[" ++ name ++ codes " \"") value (codes "\"]\n")

-- a row of the table: the declarer, the denomination and the tricks, the latter two set right in
-- two columns each
abbrev pub row_text : Seat → List ℕ → ℕ → List ℕ
row_text declarer denomination digit =
    dealer_text declarer ++ codes " " ++ denomination
    ++ codes " " ++ two_columns (number_of digit) ++ codes "\n"

-- the rows of a declarer with these five digits
unfoldable pub rows_of : Seat → List ℕ → List ℕ
rows_of declarer five =
    row_text declarer (codes "NT") (slice_index five 0)
    ++ row_text declarer (codes " S") (slice_index five 1)
    ++ row_text declarer (codes " H") (slice_index five 2)
    ++ row_text declarer (codes " D") (slice_index five 3)
    ++ row_text declarer (codes " C") (slice_index five 4)

-- the tag that names the table's columns
unfoldable pub table_tag : List ℕ
table_tag = codes "[OptimumResultTable \"Declarer;Denomination\\2R;Result\\2R\"]\n"

-- the table of the twenty results, or nothing where they aren't known
unfoldable pub table_text : List ℕ → List ℕ
table_text [] = []
table_text (x ∷ digits) =
    table_tag
    ++ rows_of North (five_of North (x ∷ digits))
    ++ rows_of South (five_of South (x ∷ digits))
    ++ rows_of East (five_of East (x ∷ digits))
    ++ rows_of West (five_of West (x ∷ digits))

-- the tricks, par's score and contract, and the table
abbrev pub tricks_text : TricksView → List ℕ
tricks_text tricks =
    tag_if_given (codes "DoubleDummyTricks") tricks.digits
    ++ tag_if_given (codes "OptimumScore") tricks.score
    ++ tag_if_given (codes "ParContract") tricks.contract
    ++ table_text tricks.digits

-- the lines of a board's game, and an empty one
unfoldable pub game_in : HeadingView → Show → TricksView → Board → List ℕ
game_in heading show tricks board =
    heading_text heading
    ++ board_text board
    ++ tag (codes "Deal") (deal_value (hand_in show board))
    ++ tricks_text tricks
    ++ codes "\n"
