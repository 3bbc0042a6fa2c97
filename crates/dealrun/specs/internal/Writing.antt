-- How far a writer has come that takes verdicts in turn and writes the boards of the accepted ones.
use Rattle.std.specs.Prelude.{ℕ, ◌≡◌, ◌≢◌, ◌+◌, ◌<◌, ◌≤◌, ◌⊎◌, List, [], length, map, All, Option}
use Rattle.std.specs.Prelude.{Some, None, MatchResult, Result, cond, if◌then◌else◌, slice_index_or}
use Rattle.std.specs.Prelude.{◌++◌, ◌∷◌}
use Rattle.std.specs.Option.{ForSome}
use Rattle.boards.specs.declared.board.Board.{Board}
use Rattle.boards.specs.Layouts.{Layout}
use Rattle.conditions.specs.Form.{Form}
use Rattle.lanes.specs.declared.verdict.Verdict.{Verdict}
use Rattle.lanes.specs.Verdicts.{turns}
use Rattle.lanes.specs.Views.{OutView}
use Rattle.boards.specs.Plans.{Planned}
use Rattle.sinks.specs.Appended.{append_known}
use Rattle.boards.specs.Text.{board_of, text_of_boards}
use Rattle.dealrun.specs.MergedVerdicts.{boards_after}
use Rattle.dealrun.specs.Headline.{contents_of}
use Rattle.dealrun.specs.Interrupted.{BreaksOffLastPiece}
use Rattle.dealrun.specs.internal.Joins.{AllParts, AllWhole}
use Rattle.dealrun.specs.declared.join.Written.{Written}
use Rattle.dealrun.specs.declared.join.Written.TheVariants.{Failed, Full, Open}
use Rattle.dealrun.specs.declared.writer.Progress.{Progress}
use Rattle.dealrun.specs.declared.writer.Writer.{Writer}

-- what was taken from each lane
abbrev pub taken_lists : List OutView → List (List Verdict)
taken_lists lanes = map (λ l. l.taken) lanes

-- the text of a verdict's board, after this many boards
abbrev pub board_text : Layout → Planned → ℕ → Verdict → List ℕ
board_text layout plan boards verdict =
    layout.board (board_of plan boards verdict.number verdict.deal)

-- the text that a verdict asks for: its board's, if it is accepted
abbrev pub text_of_verdict : Layout → Planned → ℕ → Verdict → List ℕ
text_of_verdict layout plan boards verdict =
    cond verdict.accepted (board_text layout plan boards verdict) []

-- these boards, and that of a verdict, if it is accepted
abbrev pub with_verdict : Planned → ℕ → Verdict → List Board → List Board
with_verdict plan boards verdict before = cond verdict.accepted
    (before ++ board_of plan boards verdict.number verdict.deal ∷ []) before

-- one verdict more was taken
abbrev pub CountsOne : Progress → Progress → Type 0
CountsOne old new = (new.taken ≡ old.taken + 1) × (new.turns.workers ≡ old.turns.workers)

-- what the first m verdicts print, without a footer
abbrev pub printed : Layout → Planned → List (List Verdict) → ℕ → List ℕ
printed layout plan lists m = text_of_boards layout (boards_after plan lists m)

-- how many boards that are
abbrev pub board_count : Planned → List (List Verdict) → ℕ → ℕ
board_count plan lists m = length (boards_after plan lists m)

-- what a settled lane holds in all, taken and left
abbrev pub held : OutView → Option (List Verdict)
held l = if l.settled then Some (contents_of l) else None

-- the rings, and what each settled lane holds, did not change
pub record KeepsLanes (old new : List OutView) : Type 0 where
  pub rings : map (λ l. l.ring) new ≡ map (λ l. l.ring) old
  pub settled : map (λ l. l.settled) new ≡ map (λ l. l.settled) old
  pub contents : map held new ≡ map held old

-- the lanes were taken in turn, none skipped
pub record TakenInTurn (plan : Planned) (lanes : List OutView) (m : ℕ) : Type 0 where
  pub long : length lanes ≡ plan.workers
  pub turns_are : (w : ℕ) (e : OutView) → w < plan.workers
      → length (slice_index_or lanes w e).taken ≡ turns plan.workers w m

-- no candidate was taken after the limit of boards was met
abbrev pub StaysShort : Planned → List OutView → ℕ → Type 0
StaysShort plan lanes m = (i : ℕ) → i < m
    → ForSome plan.limit (λ most. board_count plan (taken_lists lanes) i < most)

-- the bytes and the boards are those of the m verdicts that were taken
pub record WroteTaken (layout : Layout) (plan : Planned) (lanes : List OutView)
    (m boards : ℕ) (old new : Option (List ℕ)) : Type 0 where
  pub bytes_are : new ≡ append_known old (printed layout plan (taken_lists lanes) m)
  pub boards_are : boards ≡ board_count plan (taken_lists lanes) m

-- the writer goes on, with a notation that has printed these boards
pub record WriterSoFar (layout : Layout) (has_printed : List Board → Type 0) (plan : Planned)
    (lanes : List OutView) (m boards : ℕ) (old new : Option (List ℕ)) : Type 0 where
  pub in_turn : TakenInTurn plan lanes m
  pub written : WroteTaken layout plan lanes m boards old new
  pub printed : has_printed (boards_after plan (taken_lists lanes) m)
  pub within : ForSome plan.limit (λ most. boards ≤ most)
  pub short : StaysShort plan lanes m

-- the writer broke off
pub record WriterBrokeOff (layout : Layout) (plan : Planned) (lanes : List OutView)
    (m boards : ℕ) (old new : Option (List ℕ)) : Type 0 where
  pub in_turn : TakenInTurn plan lanes m
  pub broken : BreaksOffLastPiece layout plan lanes m boards old new
  pub short : StaysShort plan lanes m

-- nothing was taken or written
pub record IsFresh (w : Writer) : Type 0 where
  pub taken : w.progress.taken ≡ 0
  pub boards : w.progress.boards ≡ 0
  pub lanes : All (λ l. l.taken ≡ []) w.lanes.items

abbrev pub GoesOn : Layout → (List Board → Type 0) → Writer
    → Option (List ℕ) → Option (List ℕ) → Type 0
GoesOn layout has_printed w =
    WriterSoFar layout has_printed w.plan w.lanes.items w.progress.taken w.progress.boards

abbrev pub BrokeOff : Layout → Writer → Option (List ℕ) → Option (List ℕ) → Type 0
BrokeOff layout w =
    WriterBrokeOff layout w.plan w.lanes.items w.progress.taken w.progress.boards

-- the writer goes on, or broke off if the sink failed
abbrev pub Goes : {T E : Type 0} → Layout → (List Board → Type 0) → Writer → Option (List ℕ)
    → Result T E → Option (List ℕ) → Type 0
Goes layout has_printed w old result new = MatchResult result
    (λ _. GoesOn layout has_printed w old new) (λ _. BrokeOff layout w old new)

-- so much is taken that no more is needed
abbrev pub HasEnough : Writer → Type 0
HasEnough w =
    (w.progress.taken ≡ w.plan.count) ⊎ (w.plan.limit ≡ Some w.progress.boards)

-- where it is once it has written so much beside the workers
abbrev pub WroteBeside : Layout → (List Board → Type 0) → Planned → Written
    → List OutView → ℕ → ℕ → Option (List ℕ) → Option (List ℕ) → Type 0
WroteBeside layout has_printed plan Failed lanes m boards old new =
    WriterBrokeOff layout plan lanes m boards old new
WroteBeside layout has_printed plan Full lanes m boards old new =
    WriterSoFar layout has_printed plan lanes m boards old new × (plan.limit ≡ Some boards)
WroteBeside layout has_printed plan Open lanes m boards old new =
    WriterSoFar layout has_printed plan lanes m boards old new × (plan.limit ≢ Some boards)

abbrev pub WritesBeside : Layout → (List Board → Type 0) → Writer → Written
    → Option (List ℕ) → Option (List ℕ) → Type 0
WritesBeside layout has_printed w written = WroteBeside layout has_printed w.plan written
    w.lanes.items w.progress.taken w.progress.boards

-- the sink failed once, or not at all
abbrev pub FaultsBeside : Written → ℕ → ℕ → Type 0
FaultsBeside Failed old new = new ≡ old + 1
FaultsBeside _ old new = new ≡ old

-- the rest may be written
pub record HasRest (layout : Layout) (has_printed : List Board → Type 0) (plan : Planned)
    (form : Form) (lanes : List OutView) (m boards : ℕ) (old new : Option (List ℕ)) : Type 0 where
  pub so_far : WriterSoFar layout has_printed plan lanes m boards old new
  pub parts : AllParts plan form lanes
  pub whole : plan.limit ≢ Some boards → AllWhole plan form lanes

abbrev pub Resumes : Layout → (List Board → Type 0) → Form → Writer
    → Option (List ℕ) → Option (List ℕ) → Type 0
Resumes layout has_printed form w =
    HasRest layout has_printed w.plan form w.lanes.items w.progress.taken w.progress.boards
