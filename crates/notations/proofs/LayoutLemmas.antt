-- A layout with chosen hands has the parts of its format.
use Rattle.std.proofs.Common.{◌≡◌, Bool, true, false, refl, sym}
use Rattle.boards.specs.declared.board.Board.{Board}
use Rattle.boards.specs.Headings.{HeadingView}
use Rattle.boards.specs.Layouts.{EndsAlike, ends_with}
use Rattle.boards.specs.declared.format.Format.{Format}
use Rattle.boards.specs.declared.format.Format.TheVariants.{Pbn}
use Rattle.boards.specs.declared.show.Show.{Show}
use Rattle.boards.specs.declared.show.Seats.{Seats}
use Rattle.boards.specs.declared.show.Seats.TheVariants.{All}
use Rattle.notations.specs.Formats.{board_text, footer_of, header_of, layout_by, layout_in, layout_showing}
use Rattle.notations.proofs.GameLemmas.{plain_game}
use Rattle.boards.specs.TricksLines.{nothing_known}

header_by : (format : Format) (seats : Seats) (show : Show) (heading : HeadingView)
    → (layout_by format seats show heading).header ≡ header_of format heading
header_by Pbn All show heading = refl
header_by _ seats show heading = refl

board_by : (format : Format) (seats : Seats) (show : Show) (heading : HeadingView) (board : Board)
    → show.seats ≡ seats → (layout_by format seats show heading).board board ≡ board_text format show heading nothing_known board
board_by Pbn All show heading board all = sym (plain_game heading show board all)
board_by _ seats show heading board is = refl

footer_by : (format : Format) (seats : Seats) (show : Show) (heading : HeadingView)
    → (layout_by format seats show heading).footer ≡ ends_with (footer_of format)
footer_by Pbn All show heading = refl
footer_by _ seats show heading = refl

pub showing_header : (format : Format) (show : Show) (heading : HeadingView)
    → (layout_showing format show heading).header ≡ header_of format heading
showing_header format show heading = header_by format show.seats show heading

pub showing_board : (format : Format) (show : Show) (heading : HeadingView) (board : Board)
    → (layout_showing format show heading).board board ≡ board_text format show heading nothing_known board
showing_board format show heading board = board_by format show.seats show heading board refl

pub showing_footer : (format : Format) (show : Show) (heading : HeadingView)
    → (layout_showing format show heading).footer ≡ ends_with (footer_of format)
showing_footer format show heading = footer_by format show.seats show heading

pub showing_ends_alike : (format : Format) (show : Show) (heading : HeadingView)
    → EndsAlike (layout_showing format show heading)
showing_ends_alike format show heading boards m n = rw (showing_footer format show heading) refl

pub board_in : (format : Format) (show : Show) (heading : HeadingView) (tricks : Bool) (board : Board)
    → (layout_in format show heading tricks).board board ≡ board_text format show heading nothing_known board
board_in format show heading false board = showing_board format show heading board
board_in format show heading true board = refl
