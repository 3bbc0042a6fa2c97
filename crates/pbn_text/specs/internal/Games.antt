-- The number of a board's candidate isn't part of its game.
use Rattle.std.proofs.Common.{◌≡◌, ℕ, List, refl}
use Rattle.cards.specs.declared.seat.Seat.{Seat}
use Rattle.boards.specs.Law2.{board_by_law}
use Rattle.pbn_text.specs.Games.{HeadingView, game, game_text}

pub game_by_law : (heading : HeadingView) (number candidate : ℕ) (deal : List Seat)
    → game_text heading (board_by_law number candidate deal) ≡ game number heading deal
unfolding game game_text
game_by_law heading number candidate deal = refl
