-- What the games of boards are read as: `laws` says so.
use Rattle.std.specs.Prelude.{◌≤◌, ℕ, ◌^◌, List, Option, None, Some, IfSome, if◌then◌else◌, map}
use Rattle.boards.specs.declared.board.Board.{Board as ABoard}
use Rattle.boards.specs.Headings.{HeadingView}
use Rattle.boards.specs.Labels.{IsDate, IsLabel}
use Rattle.boards.specs.TricksLines.{nothing_known}
use Rattle.cards.specs.Deals.{IsPartition}
use Rattle.input.specs.Texts.{Spelled}
use Rattle.input.specs.Values.{is_no_label}
use Rattle.input.specs.declared.records.game.Told.{Told}

-- a board as `make` numbers and deals it
pub record IsMade (board : ABoard) : Type 0 where
  pub least : 1 ≤ board.number
  pub most : board.number ≤ 2 ^ 40
  pub deal : IsPartition board.deal

-- labels that options give
pub record IsHeading (heading : HeadingView) : Type 0 where
  pub event : IfSome heading.event IsLabel
  pub site : IfSome heading.site IsLabel
  pub date : IfSome heading.date IsDate

-- `?` and `#` stand for none
abbrev pub read_label : Option (List ℕ) → Option (List ℕ)
read_label None = None
read_label (Some text) = if is_no_label text then None else Some text

abbrev pub read_heading : HeadingView → HeadingView
read_heading heading = record {
  event = read_label heading.event;
  site = read_label heading.site;
  date = heading.date;
}

-- the board as it is, but that no candidate has its number
abbrev pub read_board : HeadingView → ABoard → Told
read_board heading board = record {
  board = record board { candidate = 2 ^ 40 };
  heading = read_heading heading;
  tricks = nothing_known;
}

-- these boards, and no line is refused
abbrev pub all_read : HeadingView → List ABoard → Spelled
all_read heading boards = record { boards = map (read_board heading) boards; refused = None }
