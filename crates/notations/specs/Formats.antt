-- What each format makes of boards.
use Rattle.std.specs.Prelude.{ℕ, List, [], Bool, true, false, refl}
use Rattle.boards.specs.declared.board.Board.{Board}
use Rattle.boards.specs.Html.{html_end}
use Rattle.boards.specs.Layouts.{EndsAlike, Layout, SolvedLayout, ends_with}
use Rattle.pbn_text.specs.Games.{HeadingView, header, pbn}
use Rattle.boards.specs.declared.format.Format.{Format}
use Rattle.boards.specs.declared.format.Format.TheVariants.{Pbn, Hands, Lin, Html, Sheet, Slips, Json, Numbers}
use Rattle.boards.specs.declared.show.Seats.{Seats}
use Rattle.boards.specs.declared.show.Seats.TheVariants.{All}
use Rattle.boards.specs.declared.show.Show.{Show}
use Rattle.boards.specs.Show.{all_shown}
use Rattle.notations.specs.Games.{game_in}
use Rattle.notations.specs.Json.{json_line}
use Rattle.notations.specs.Lin.{lin_line}
use Rattle.notations.specs.Numbers.{number_line}
use Rattle.notations.specs.Pages as pages
use Rattle.notations.specs.Records as records
use Rattle.notations.specs.SheetStyle.{sheet_style}
use Rattle.notations.specs.Sheets.{section_text}
use Rattle.notations.specs.SlipStyle.{slip_style}
use Rattle.notations.specs.Slips.{slips_text}
use Rattle.notations.specs.Style.{style, style_with_tricks}
use Rattle.boards.specs.TricksLines.{TricksView, nothing_known}

-- ---- the parts of a text

-- what comes before the boards. LIN, JSON and the numbers of candidates have no labels
abbrev pub header_of : Format → HeadingView → List ℕ
header_of Pbn heading = header
header_of Hands heading = records.header_text heading
header_of Html heading = pages.header_text style heading
header_of Sheet heading = pages.header_text sheet_style heading
header_of Slips heading = pages.header_text slip_style heading
header_of _ heading = []

-- the same before boards with tricks: the page has a style for these
abbrev pub header_with_tricks : Format → HeadingView → List ℕ
header_with_tricks Html heading = pages.header_text style_with_tricks heading
header_with_tricks format heading = header_of format heading

-- a board, with the hands that are shown and what is known of its tricks
abbrev pub board_text : Format → Show → HeadingView → TricksView → Board → List ℕ
board_text Pbn show heading tricks board = game_in heading show tricks board
board_text Hands show heading tricks board = records.record_text show tricks board
board_text Lin show heading tricks board = lin_line show board
board_text Html show heading tricks board = pages.board_text show tricks board
board_text Sheet show heading tricks board = section_text show tricks board
board_text Slips show heading tricks board = slips_text show board
board_text Json show heading tricks board = json_line show tricks board
board_text Numbers show heading tricks board = number_line board

-- what comes after the boards
abbrev pub footer_of : Format → List ℕ
footer_of Html = html_end
footer_of Sheet = html_end
footer_of Slips = html_end
footer_of _ = []

-- ---- layouts

-- with these hands, and without tricks. Games with all hands are those of the crate pbn_text
abbrev pub layout_by : Format → Seats → Show → HeadingView → Layout
layout_by Pbn All show heading = pbn heading
layout_by format seats show heading = record {
  header = header_of format heading;
  board = board_text format show heading nothing_known;
  footer = ends_with (footer_of format);
}

abbrev pub layout_showing : Format → Show → HeadingView → Layout
layout_showing format show heading = layout_by format show.seats show heading

-- the layout of a format, under a heading: all hands, and no tricks
abbrev pub layout_of : Format → HeadingView → Layout
layout_of format heading = layout_showing format all_shown heading

-- tricks are written only beside all hands
abbrev pub beside_seats : Seats → TricksView → TricksView
beside_seats All tricks = tricks
beside_seats _ tricks = nothing_known

abbrev pub beside_hands : Show → TricksView → TricksView
beside_hands show tricks = beside_seats show.seats tricks

-- with these hands, and with what is known of the tricks of each board; the header is one before
-- boards with tricks where these are expected
abbrev pub header_where : Bool → Format → HeadingView → List ℕ
header_where true format heading = header_with_tricks format heading
header_where false format heading = header_of format heading

abbrev pub layout_solved : Format → Show → HeadingView → (expects : Bool) → SolvedLayout
layout_solved format show heading expects = record {
  header = header_where expects format heading;
  board = λ tricks board. board_text format show heading (beside_hands show tricks) board;
  footer = footer_of format;
}

-- no footer depends on how many candidates were tried
pub ends_alike : (format : Format) (heading : HeadingView) → EndsAlike (layout_of format heading)
ends_alike Pbn heading boards m n = refl
ends_alike _ heading boards m n = refl

-- ---- a printer

-- what contracts see of a printer: its format, the hands that it shows, its heading, whether it is
-- one of boards with tricks, and the text that it printed last
pub record PrintingAs : Type 0 where
  pub format : Format
  pub show : Show
  pub heading : HeadingView
  pub tricks : Bool
  pub text : List ℕ

-- the same of one for boards of which some have tricks, and whether these are expected
pub record SolvingAs : Type 0 where
  pub format : Format
  pub show : Show
  pub heading : HeadingView
  pub expects : Bool
  pub text : List ℕ

-- how a printer lays a text out; one of boards with tricks has the header before these, also where
-- nothing is known of a board's
abbrev pub layout_in : Format → Show → HeadingView → (tricks : Bool) → Layout
layout_in format show heading false = layout_showing format show heading
layout_in format show heading true = record {
  header = header_with_tricks format heading;
  board = board_text format show heading nothing_known;
  footer = ends_with (footer_of format);
}
