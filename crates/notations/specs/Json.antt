-- JSON: a line a board, without header and footer.
use Rattle.std.specs.Prelude.{ℕ, ◌^◌, nat_lt, List, [], ◌++◌, codes, decimal, if◌then◌else◌}
use Rattle.boards.specs.declared.board.Board.{Board}
use Rattle.pbn_text.specs.Games.{dealer_text, vulnerable_text}
use Rattle.boards.specs.declared.show.Show.{Show}
use Rattle.notations.specs.Dotted.{deal_value}
use Rattle.boards.specs.Show.{hand_in}
use Rattle.notations.specs.Tricks.{if_given, par_text}
use Rattle.boards.specs.TricksLines.{TricksView}

-- the members of tricks and par, where they are known
abbrev pub tricks_members : TricksView → List ℕ
tricks_members tricks =
    if_given (codes ",\"tricks\":\"") tricks.digits (codes "\"")
    ++ if_given (codes ",\"par\":\"") (par_text tricks) (codes "\"")

-- the number of the candidate, if the board is of one: these are below 2^40
abbrev pub number_member : ℕ → List ℕ
number_member candidate =
    if nat_lt candidate (2 ^ 40) then codes ",\"number\":" ++ decimal candidate else []

-- the board's number, dealer, vulnerability and deal, the words as in PBN, the number of the
-- candidate, and what is known of the tricks
unfoldable pub json_line : Show → TricksView → Board → List ℕ
json_line show tricks board =
    codes "{\"board\":" ++ decimal board.number
    ++ codes ",\"dealer\":\"" ++ dealer_text board.dealer
    ++ codes "\",\"vulnerable\":\"" ++ vulnerable_text board.vulnerable
    ++ codes "\",\"deal\":\"" ++ deal_value (hand_in show board)
    ++ codes "\"" ++ number_member board.candidate
    ++ tricks_members tricks
    ++ codes "}\n"
