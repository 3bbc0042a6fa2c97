-- What a search and a look come to: the plan of a run, and the meaning of its condition.
use Rattle.std.specs.Prelude.{◌≡◌, ◌≤◌, ◌<◌, ◌^◌, ◌+◌, ℕ, List, Option, None, Some, length, true}
use Rattle.boards.specs.Headings.{HeadingView}
use Rattle.boards.specs.declared.setting.Setting.{Setting}
use Rattle.cond_lang.specs.Form.{Form, all_of, compare, number}
use Rattle.cond_lang.specs.Limits.{parts_of}
use Rattle.cond_lang.specs.After.{GivesNames, text_after}
use Rattle.cond_lang.specs.Text.{SpellsTree}
use Rattle.conditions.specs.declared.limits.TheConstants.{MOST_PARTS}
use Rattle.conditions.specs.declared.tree.Op.TheVariants.{Equal}
use Rattle.requests.specs.PredealtHands.{first_refused, fixed_of}
use Rattle.boards.specs.Labels.{IsDate, IsLabel}
use Rattle.boards.specs.declared.format.Format.{Format}
use Rattle.boards.specs.declared.format.Format.TheVariants.{Pbn}
use Rattle.boards.specs.Captions.{captions_in, is_caption, labels_of}
use Rattle.boards.specs.Plans.{Planned}
use Rattle.requests.specs.Defaults.{candidates_of, first_board_of, lane_of, workers_in}
use Rattle.requests.specs.Requests.{Look, Search}
use Rattle.requests.specs.declared.workers.Workers.{Workers}
use Rattle.requests.specs.declared.workers.Workers.TheVariants.{Number, Auto}

-- how many workers a run has: what is asked for; with `auto` some number from 1 to 16
abbrev pub AreWorkers : Workers → ℕ → Type 0
AreWorkers (Number n) workers = workers ≡ n
AreWorkers Auto workers = (0 < workers) × (workers ≤ 16)

-- the labels of the options, those that the format writes, and what replaces Law 2
abbrev pub heading_of : Look → HeadingView
heading_of l = record { event = l.event; site = l.site; date = l.date }

abbrev pub title_of : Look → HeadingView
title_of l = captions_in l.format (heading_of l)

abbrev pub setting_of : Look → Setting
setting_of l = record { dealer = l.dealer; vulnerable = l.vulnerable; rotate = l.rotate }

-- the plan: from here on the candidates are its count, the lane its capacity, the boards its limit.
-- Of the labels it has those that Portable Bridge Notation has
abbrev pub plan_of : Search → Look → Planned
plan_of s l = record {
  seed = s.seed;
  first = s.first;
  count = candidates_of s;
  workers = workers_in s.workers;
  capacity = lane_of s;
  limit = s.boards;
  first_board = first_board_of l;
  heading = labels_of (heading_of l);
  setting = setting_of l;
  fixed = fixed_of s.hands;
}

-- the plan's numbers are in range
pub record HasNumbers (s : Search) (l : Look) : Type 0 where
  pub candidates : s.first + candidates_of s ≤ 2 ^ 40
  pub workers : (0 < workers_in s.workers) × (workers_in s.workers ≤ 16)
  pub lane : (0 < lane_of s) × (lane_of s ≤ 4096)
  pub boards : s.boards ≡ Some 0 → ⊥
  pub first_board : (0 < first_board_of l) × (first_board_of l ≤ 2 ^ 40)

-- an event or a site of this format: in Portable Bridge Notation a label, and else a caption
abbrev pub IsTitle : Format → List ℕ → Type 0
IsTitle Pbn text = IsLabel text
IsTitle _ text = is_caption text ≡ true

-- a text given can be written as one in this format, or as a date
abbrev pub CanLabel : Format → Option (List ℕ) → Type 0
CanLabel format given = (t : List ℕ) → given ≡ Some t → IsTitle format t

abbrev pub CanDate : Option (List ℕ) → Type 0
CanDate given = (t : List ℕ) → given ≡ Some t → IsDate t

-- its labels can be written
pub record HasLabels (l : Look) : Type 0 where
  pub event : CanLabel l.format l.event
  pub site : CanLabel l.format l.site
  pub date : CanDate l.date

-- each text of a hand given is a hand, without a card of an earlier one
abbrev pub HasHands : Search → Type 0
HasHands s = first_refused s.hands ≡ None

-- there is such a plan
pub record IsPlanned (s : Search) (l : Look) : Type 0 where
  pub numbers : HasNumbers s l
  pub labels : HasLabels l
  pub hands : HasHands s

-- the given definitions are definitions alone, at most 4,096 bytes
pub record AreGiven (definitions : List ℕ) : Type 0 where
  pub short : length definitions ≤ 4096
  pub names : GivesNames definitions

abbrev pub MayBeGiven : Option (List ℕ) → Type 0
MayBeGiven given = (t : List ℕ) → given ≡ Some t → AreGiven t

-- what a text is read as: after the definitions, where some are given
abbrev pub text_read : (definitions : Option (List ℕ)) → List ℕ → List ℕ
text_read None text = text
text_read (Some definitions) text = text_after definitions text

-- the text of a condition means this tree after the definitions, and it has no more parts than the
-- limit; without a text every deal is accepted
abbrev pub TextMeans : (definitions given : Option (List ℕ)) → Form → Type 0
TextMeans definitions None form = form ≡ compare (number 0) Equal (number 0)
TextMeans definitions (Some t) form =
    (length t ≤ 1024) × SpellsTree (text_read definitions t) form × (parts_of form ≤ MOST_PARTS)

-- the text of a lesson's condition and that of a condition are read each on its own, and only the
-- latter after the definitions: with both a deal has to meet both
abbrev pub BothMean : (lesson definitions given : Option (List ℕ)) → Form → Type 0
BothMean None definitions given form = TextMeans definitions given form
BothMean (Some text) definitions None form = TextMeans None (Some text) form
BothMean (Some text) definitions (Some given) form =
    (a b : Form) × TextMeans None (Some text) a × TextMeans definitions (Some given) b
    × (form ≡ all_of a b)

-- which deals a search accepts: those of which this tree holds
abbrev pub Means : Search → Form → Type 0
Means s form = MayBeGiven s.let_text × BothMean s.lesson s.let_text s.where_text form

-- there is a condition
abbrev pub HasCondition : Search → Type 0
HasCondition s = (form : Form) × Means s form
