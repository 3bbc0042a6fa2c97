-- What a plan says.
use Rattle.std.specs.Prelude.{ℕ, List, Option}
use Rattle.boards.specs.declared.setting.Setting.{Setting}
use Rattle.cards.specs.declared.seat.Seat.{Seat}
use Rattle.cards.specs.Fixed.{candidate_around}
use Rattle.boards.specs.Headings.{HeadingView}

-- the candidates `first` to `first + count - 1` of a seed are tried by `workers` workers, each at
-- most `capacity` verdicts ahead; at most `limit` boards are written, from `first_board` on, under
-- a heading; a setting says their dealers and vulnerability and whether they are turned. The
-- candidates are dealt around fixed cards, which are none unless a plan fixes some
pub record Planned : Type 0 where
  pub seed : ℕ
  pub first : ℕ
  pub count : ℕ
  pub workers : ℕ
  pub capacity : ℕ
  pub limit : Option ℕ
  pub first_board : ℕ
  pub heading : HeadingView
  pub setting : Setting
  pub fixed : List (Option Seat)

-- the deal of candidate k of the plan
abbrev pub candidate_of : Planned → ℕ → List Seat
candidate_of plan = candidate_around plan.fixed plan.seed
