-- What the tags of a game say, and the board that the game is.
use Rattle.std.specs.Prelude.{ℕ, zero, suc, ◌+◌, ◌^◌, ◌==◌, ◌&&◌, Bool, not}
use Rattle.std.specs.Prelude.{is_none, is_some}
use Rattle.std.specs.Prelude.{List, [], Option, None, Some, Result, Ok, Err, unwrap_or, if◌then◌else◌}
use Rattle.boards.specs.declared.board.Board.{Board as ABoard}
use Rattle.boards.specs.Headings.{HeadingView}
use Rattle.boards.specs.Law2.{dealer_of, vulnerable_of}
use Rattle.boards.specs.TricksLines.{TricksView}
use Rattle.boards.specs.TricksTags.{tagged}
use Rattle.cards.specs.declared.seat.Seat.{Seat}
use Rattle.input.specs.DealValues.{deal_in}
use Rattle.input.specs.Values.{date_in, dealer_in, is_unknown, label_in, number_in, short_in}
use Rattle.input.specs.Values.{vulnerable_in}
use Rattle.input.specs.declared.records.fault.RecordFault.{RecordFault}
use Rattle.input.specs.declared.records.fault.RecordFault.TheVariants.{NotADeal, NotANumber, NotADealer}
use Rattle.input.specs.declared.records.fault.RecordFault.TheVariants.{NotAVulnerability}
use Rattle.input.specs.declared.records.fault.RefusedRecord.{RefusedRecord}
use Rattle.input.specs.declared.records.game.Game.{Game}
use Rattle.input.specs.declared.records.game.Told.{Told}
use Rattle.input.specs.declared.records.kind.TagKind.{TagKind}
use Rattle.input.specs.declared.records.kind.TagKind.TheVariants.{Event, Site, Date, Board, Dealer}
use Rattle.input.specs.declared.records.kind.TagKind.TheVariants.{Vulnerable, Deal}
use Rattle.input.specs.declared.records.kind.TagKind.TheVariants.{Tricks, Score, Contract}

abbrev pub no_game : Game
no_game = record {
  event = None;
  site = None;
  date = None;
  number = None;
  dealer = None;
  vulnerable = None;
  deal = None;
  tricks = None;
  score = None;
  contract = None;
  fault = None;
}

abbrev pub has : TagKind → Game → Bool
has Event g = is_some g.event
has Site g = is_some g.site
has Date g = is_some g.date
has Board g = is_some g.number
has Dealer g = is_some g.dealer
has Vulnerable g = is_some g.vulnerable
has Deal g = is_some g.deal
has Tricks g = is_some g.tricks
has Score g = is_some g.score
has Contract g = is_some g.contract

-- ---- a tag more

-- the first fault stays
abbrev pub first_fault : Option RefusedRecord → Bool → ℕ → RecordFault → Option RefusedRecord
first_fault (Some first) bad line fault = Some first
first_fault None bad line fault = if bad then Some (record { line = line; fault = fault }) else None

abbrev pub with_number : List ℕ → ℕ → Game → Game
with_number value line g = record g {
  number = Some (number_in value);
  fault = first_fault g.fault (number_in value == 0) line NotANumber;
}

abbrev pub with_dealer : List ℕ → ℕ → Game → Game
with_dealer value line g = record g {
  dealer = Some (dealer_in value);
  fault = first_fault g.fault (is_none (dealer_in value) && not (is_unknown value)) line NotADealer;
}

abbrev pub with_vulnerable : List ℕ → ℕ → Game → Game
with_vulnerable value line g = record g {
  vulnerable = Some (vulnerable_in value);
  fault = first_fault g.fault (is_none (vulnerable_in value) && not (is_unknown value)) line
      NotAVulnerability;
}

abbrev pub with_deal : List ℕ → ℕ → Game → Game
with_deal value line g = record g {
  deal = Some (deal_in value);
  fault = first_fault g.fault (is_none (deal_in value)) line NotADeal;
}

-- the game with the tag of this kind and value, on this line
unfoldable pub with_tag : TagKind → List ℕ → ℕ → Game → Game
with_tag Event value line g = record g { event = Some (label_in value) }
with_tag Site value line g = record g { site = Some (label_in value) }
with_tag Date value line g = record g { date = Some (date_in value) }
with_tag Board value line g = with_number value line g
with_tag Dealer value line g = with_dealer value line g
with_tag Vulnerable value line g = with_vulnerable value line g
with_tag Deal value line g = with_deal value line g
with_tag Tricks value line g = record g { tricks = Some (short_in value) }
with_tag Score value line g = record g { score = Some (short_in value) }
with_tag Contract value line g = record g { contract = Some (short_in value) }

-- ---- the board

-- one more than the last, where no number is given
abbrev pub or_next : ℕ → ℕ → ℕ
or_next last zero = last + 1
or_next last (suc n) = suc n

abbrev pub number_of : ℕ → Game → ℕ
number_of last g = or_next last (unwrap_or g.number 0)

-- Law 2 gives the dealer and the vulnerability that aren't known. No candidate has this number
abbrev pub board_of : ℕ → Game → List Seat → ABoard
board_of last g deal = record {
  number = number_of last g;
  candidate = 2 ^ 40;
  dealer = unwrap_or (unwrap_or g.dealer None) (dealer_of (number_of last g));
  vulnerable = unwrap_or (unwrap_or g.vulnerable None) (vulnerable_of (number_of last g));
  deal = deal;
}

abbrev pub heading_of : Game → HeadingView
heading_of g = record {
  event = unwrap_or g.event None;
  site = unwrap_or g.site None;
  date = unwrap_or g.date None;
}

-- what the tags tell of the board's tricks
abbrev pub tricks_of : Game → TricksView
tricks_of g = tagged (unwrap_or g.tricks []) (unwrap_or g.score []) (unwrap_or g.contract [])

-- a deal that is none is a fault
abbrev pub deal_says : ℕ → Game → Option (List Seat) → Option Told
deal_says last g None = None
deal_says last g (Some deal) =
    Some (record { board = board_of last g deal; heading = heading_of g; tricks = tricks_of g })

abbrev pub unless_fault : Option RefusedRecord → Option Told → Result (Option Told) RefusedRecord
unless_fault (Some fault) told = Err fault
unless_fault None told = Ok told

-- what a game says as it ends, after the board of this number. Without a deal it has no board and
-- no fault
abbrev pub by_deal : ℕ → Game → Option (Option (List Seat)) → Result (Option Told) RefusedRecord
by_deal last g None = Ok None
by_deal last g (Some deal) = unless_fault g.fault (deal_says last g deal)

unfoldable pub game_says : ℕ → Game → Result (Option Told) RefusedRecord
game_says last g = by_deal last g g.deal
