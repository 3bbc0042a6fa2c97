-- What helps a person with a plan, a label or a hand that is refused: a line below that of the
-- refusal.
use Rattle.std.specs.Prelude.{◌≡◌, ◌-◌, ◌^◌, ℕ, List, [], ◌++◌, codes, decimal}
use Rattle.std.specs.Prelude.{nat_lt, if◌then◌else◌}
use Rattle.std.specs.Prelude.{Option, None, Some, false, unwrap_or}
use Rattle.boards.specs.declared.format.Format.{Format}
use Rattle.boards.specs.declared.format.Format.TheVariants.{Pbn}
use Rattle.cards.specs.declared.seat.Seat.{Seat}
use Rattle.cards.specs.declared.seat.Seat.TheVariants as seat
use Rattle.requests.specs.HandFaults.{IsFaultOf}
use Rattle.requests.specs.HandRules.{rule_of}
use Rattle.requests.specs.PredealtHands.{before, given_at, is_refused_at}
use Rattle.requests.specs.declared.hand_fault.HandFault.{HandFault}
use Rattle.command_line.specs.Shown.{cut_text}
use Rattle.boards.specs.declared.plan.PlanError.{PlanError}
use Rattle.boards.specs.declared.plan.PlanError.TheVariants as plan
use Rattle.requests.specs.Defaults.{candidates_of, first_board_of, lane_of, workers_in}
use Rattle.requests.specs.Requests.{Look, Search}
use Rattle.jobs.specs.declared.failure.Failure.{Failure}
use Rattle.jobs.specs.declared.failure.Failure.TheVariants.{Plan, Label, Hand}
use Rattle.requests.specs.declared.names.LabelName.{LabelName}
use Rattle.requests.specs.declared.names.LabelName.TheVariants as label

-- a number that an option was given, and the least and the greatest that it takes
abbrev pub range_line : List ℕ → ℕ → ℕ → ℕ → List ℕ → List ℕ
range_line option value least most unit =
    codes "  --" ++ option ++ codes " " ++ decimal value ++ codes ": " ++ decimal least
    ++ codes " to " ++ decimal most ++ unit ++ codes "\n"

-- the range that the candidates are out of: the first of them, or how many
abbrev pub candidates_advice : Search → List ℕ
candidates_advice s =
    if nat_lt (2 ^ 40) s.first then range_line (codes "first") s.first 0 (2 ^ 40) []
    else range_line (codes "candidates") (candidates_of s) 0 (2 ^ 40 - s.first)
    (codes " from this --first on")

-- the range that a plan's number is out of
abbrev pub plan_advice : Search → Look → PlanError → List ℕ
plan_advice s l plan.Range = candidates_advice s
plan_advice s l plan.Workers =
    range_line (codes "workers") (workers_in s.workers) 1 16 (codes " workers, or auto")
plan_advice s l plan.Capacity = range_line (codes "lane") (lane_of s) 1 4096 (codes " deals")
plan_advice s l plan.Boards =
    range_line (codes "boards") (unwrap_or s.boards 0) 1 (2 ^ 32 - 1) (codes " boards")
plan_advice s l plan.FirstBoard =
    range_line (codes "first-board") (first_board_of l) 1 (2 ^ 40) []

-- an option and the text that it was given
abbrev pub given_text : List ℕ → List ℕ → List ℕ
given_text option text =
    codes "  --" ++ option ++ codes " \"" ++ cut_text text ++ codes "\": "

-- a text that an option was given, and what it takes
abbrev pub text_line : List ℕ → Option (List ℕ) → List ℕ → List ℕ
text_line option text rule = given_text option (unwrap_or text []) ++ rule ++ codes "\n"

-- what an event and a site may be in a format
abbrev pub label_rule : Format → List ℕ
label_rule Pbn = codes "at most 100 characters of ASCII, from space to ~, without \" and \\"
label_rule _ = codes "at most 100 characters, without control characters and direction marks"

-- what a date may be
abbrev pub date_rule : List ℕ
date_rule = codes "a date is written YYYY.MM.DD, as 2024.05.01"

-- what the label may be
abbrev pub label_advice : Look → LabelName → List ℕ
label_advice l label.Event = text_line (codes "event") l.event (label_rule l.format)
label_advice l label.Site = text_line (codes "site") l.site (label_rule l.format)
label_advice l label.Date = text_line (codes "date") l.date date_rule

-- the option of a seat's hand
abbrev pub seat_option : Seat → List ℕ
seat_option seat.North = codes "north"
seat_option seat.East = codes "east"
seat_option seat.South = codes "south"
seat_option seat.West = codes "west"

-- a line that names a fault of the text given for a seat's hand
pub record IsHandAdvice (s : Search) (holder : Seat) (line : List ℕ) : Type 0 where
  pub text : List ℕ
  pub given : given_at s.hands holder ≡ Some text
  pub fault : HandFault
  pub is_fault : IsFaultOf (before holder s.hands) text fault
  pub says : line ≡ given_text (seat_option holder) text ++ rule_of fault ++ codes "\n"

-- the line for the text of a seat's hand; none unless it is refused
abbrev pub IsAdviceOnHand : Search → Seat → Option (List ℕ) → Type 0
IsAdviceOnHand s holder None = is_refused_at s.hands holder ≡ false
IsAdviceOnHand s holder (Some line) = IsHandAdvice s holder line

-- the line below the refusal of a plan, a label or a hand; none below another failure
abbrev pub IsAdviceOn : Search → Look → Failure → Option (List ℕ) → Type 0
IsAdviceOn s l (Plan error) line = line ≡ Some (plan_advice s l error)
IsAdviceOn s l (Label name) line = line ≡ Some (label_advice l name)
IsAdviceOn s l (Hand holder) line = IsAdviceOnHand s holder line
IsAdviceOn s l failure line = line ≡ None
