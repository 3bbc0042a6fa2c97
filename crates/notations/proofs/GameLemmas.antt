-- A game with all hands and without tricks is that of pbn_text.
use Rattle.std.proofs.Common.{◌≡◌, ◌++◌, ap, codes}
use Rattle.std.proofs.lemmas.List.{append-nil}
use Rattle.boards.specs.declared.board.Board.{Board}
use Rattle.pbn_text.specs.Games.{HeadingView, board_text, deal_text, game_text, heading_text, tag}
use Rattle.boards.specs.declared.show.Seats.TheVariants.{All}
use Rattle.notations.specs.Games.{game_in, table_text}
use Rattle.boards.specs.declared.show.Show.{Show}
use Rattle.boards.specs.TricksLines.{TricksView, nothing_known}

pub plain_game : (heading : HeadingView) (show : Show) (board : Board)
    → show.seats ≡ All → game_in heading show nothing_known board ≡ game_text heading board
unfolding game_in game_text table_text
plain_game heading show board all = rw all
    (ap (λ xs. xs ++ codes "\n") (append-nil (heading_text heading ++ board_text board ++ tag (codes "Deal") (deal_text board.deal))))

pub plain_game_in : (heading : HeadingView) (show : Show) (tricks : TricksView) (board : Board)
    → show.seats ≡ All → tricks ≡ nothing_known → game_in heading show tricks board ≡ game_text heading board
plain_game_in heading show tricks board all none = rw none (plain_game heading show board all)
