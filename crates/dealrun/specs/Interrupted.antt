-- What holds however a run ends: what remains of one that was interrupted, by its cause.
use Rattle.std.specs.Prelude.{ℕ, ◌+◌, ◌-◌, ◌≡◌, ◌≢◌, ◌<◌, ◌≤◌, ◌⊎◌, List, [], ◌++◌, length}
use Rattle.std.specs.Prelude.{map, Option, Some, Result, Ok, Err, MatchResult, true, false}
use Rattle.std.specs.Prelude.{slice_get}
use Rattle.boards.specs.Layouts.{Layout}
use Rattle.conditions.specs.Form.{Form}
use Rattle.lanes.specs.Verdicts.{turns}
use Rattle.lanes.specs.Views.{OutView}
use Rattle.lanes.specs.Prefixes.{IsPrefix, IsProperPrefix}
use Rattle.boards.specs.declared.cause.Cause.{Cause}
use Rattle.boards.specs.declared.cause.Cause.TheVariants.{Memory, Spawn, Output, Stopped, Unclosed}
use Rattle.dealrun.specs.declared.runs.Counted.{Counted}
use Rattle.dealrun.specs.declared.runs.Report.{Report}
use Rattle.dealrun.specs.declared.runs.RunFault.{RunFault}
use Rattle.boards.specs.Plans.{Planned, candidate_of}
use Rattle.sinks.specs.Appended.{AppendsAll, AppendsPart}
use Rattle.boards.specs.Text.{accepted_among, accepted, boards_of, end_of}
use Rattle.boards.specs.Text.{text_of_boards, text_of, text_in}
use Rattle.dealrun.specs.Headline.{AllSettled, EachLane, TakesWhatIsOwed, contents_of}
use Rattle.dealrun.specs.Headline.{for_each_worker}
use Rattle.dealrun.specs.MergedVerdicts.{taken_in_all, boards_taken}
use Rattle.lanes.specs.Jobs.{verdicts_for}

-- the lanes, with m verdicts taken in all
pub record AreLanesConsistent (plan : Planned) (form : Form) (lanes : List OutView) : Type 0 where
  -- there is a lane for each worker, and they were taken in turn, none skipped
  pub in_turn : map (λ l. length l.taken) lanes
      ≡ for_each_worker plan (λ w. turns plan.workers w (taken_in_all lanes))
  -- a settled lane's contents are the first of its worker's verdicts
  pub parts : EachLane lanes
      (λ w l. l.settled ≡ true → IsPrefix (contents_of l) (verdicts_for plan form w))
  -- if all lanes are settled, no more was taken than is needed
  pub needed : AllSettled lanes → taken_in_all lanes ≤ end_of plan form
  -- and the boards of the first m that were taken are those of the first m candidates
  pub candidates : AllSettled lanes → (m : ℕ) → m ≤ taken_in_all lanes
      → boards_taken plan lanes m
      ≡ boards_of plan (accepted_among (candidate_of plan) plan.first form m)

-- of the last piece the end is missing: of the header if nothing was taken, else of the board of
-- the m-th verdict
pub record BreaksOffLastPiece (layout : Layout) (plan : Planned) (lanes : List OutView)
    (m boards : ℕ) (old new : Option (List ℕ)) : Type 0 where
  pub part : AppendsPart old new (text_of_boards layout (boards_taken plan lanes m))
  pub before : 0 < m → (more : List ℕ)
      × (text_of_boards layout (boards_taken plan lanes (m - 1)) ++ more ≡ part.front)
  pub boards_are : boards ≡ length (boards_taken plan lanes (m - 1))

-- the end of the footer is missing: all that is owed was taken, and all boards were written
pub record BreaksOffFooter (layout : Layout) (plan : Planned) (form : Form)
    (lanes : List OutView) (boards : ℕ) (old new : Option (List ℕ)) : Type 0 where
  pub lanes_are : TakesWhatIsOwed plan form lanes boards
  pub part : AppendsPart old new (text_in layout plan form)
  pub before : (more : List ℕ) × (text_of layout plan (accepted plan form) ++ more ≡ part.front)
  pub boards_are : boards ≡ length (accepted plan form)

-- worker w ended before it had sent all, and is the least such worker: the settled lanes below are
-- whole
pub record IsLeastStopped (plan : Planned) (form : Form) (lanes : List OutView) (w : ℕ)
    : Type 0 where
  pub lane : OutView
  pub at : slice_get lanes w ≡ Some lane
  pub settled : lane.settled ≡ true
  pub part : IsProperPrefix (contents_of lane) (verdicts_for plan form w)
  pub below : EachLane lanes
      (λ v l. v < w → l.settled ≡ true → contents_of l ≡ verdicts_for plan form v)

-- the lane of worker w can't say how it ended, and is the least such lane. Unless the limit of
-- boards was met, each settled lane is whole
pub record IsLeastUnclosed (plan : Planned) (form : Form) (lanes : List OutView) (w boards : ℕ)
    : Type 0 where
  pub lane : OutView
  pub at : slice_get lanes w ≡ Some lane
  pub unsettled : lane.settled ≡ false
  pub below : EachLane lanes (λ v l. v < w → l.settled ≡ true)
  pub whole : plan.limit ≢ Some boards
      → EachLane lanes (λ v l. l.settled ≡ true → contents_of l ≡ verdicts_for plan form v)

-- worker n was not started, nor any after it: their lanes are not settled
pub record IsFirstNotStarted (plan : Planned) (lanes : List OutView) (n : ℕ) : Type 0 where
  pub worker : n < plan.workers
  pub unsettled : EachLane lanes (λ w l. n ≤ w → l.settled ≡ false)

-- a run whose sink took all that it was given: the lanes, and the bytes and the boards of what was
-- taken
pub record StandsCompleteIn (layout : Layout) (closing : List ℕ) (plan : Planned) (form : Form)
    (lanes : List OutView) (boards : ℕ) (old new : Option (List ℕ)) : Type 0 where
  pub lanes_are : AreLanesConsistent plan form lanes
  pub bytes_are : AppendsAll old new
      (text_of_boards layout (boards_taken plan lanes (taken_in_all lanes)) ++ closing)
  pub boards_are : boards ≡ length (boards_taken plan lanes (taken_in_all lanes))

-- the footer after the boards of what was taken
abbrev pub footer_taken : Layout → Planned → List OutView → List ℕ
footer_taken layout plan lanes =
    layout.footer (boards_taken plan lanes (taken_in_all lanes)) (taken_in_all lanes)

-- a run that was interrupted, by its cause: it wrote no footer
abbrev pub InterruptedIn : Layout → Planned → Form → Cause → List OutView → ℕ
    → Option (List ℕ) → Option (List ℕ) → Type 0
InterruptedIn layout plan form Memory lanes boards old new =
    (lanes ≡ []) × (boards ≡ 0) × (new ≡ old)
InterruptedIn layout plan form Spawn lanes boards old new =
    AreLanesConsistent plan form lanes × (taken_in_all lanes ≡ 0) × (boards ≡ 0) × (new ≡ old)
    × ((n : ℕ) × IsFirstNotStarted plan lanes n)
InterruptedIn layout plan form Output lanes boards old new =
    AreLanesConsistent plan form lanes
    × (BreaksOffLastPiece layout plan lanes (taken_in_all lanes) boards old new
    ⊎ BreaksOffFooter layout plan form lanes boards old new)
InterruptedIn layout plan form (Stopped w) lanes boards old new =
    StandsCompleteIn layout [] plan form lanes boards old new × (plan.limit ≢ Some boards)
    × IsLeastStopped plan form lanes w
InterruptedIn layout plan form (Unclosed w) lanes boards old new =
    StandsCompleteIn layout [] plan form lanes boards old new
    × IsLeastUnclosed plan form lanes w boards

-- the sink failed once in a run that ended so, or not at all
abbrev pub FaultsAfter : Cause → ℕ → ℕ → Type 0
FaultsAfter Output old new = new ≡ old + 1
FaultsAfter _ old new = new ≡ old

-- the lanes as they are, and the bytes of what was taken from them
abbrev pub StandsIn : Layout → Planned → Form → Result Report RunFault
    → Option (List ℕ) → Option (List ℕ) → Type 0
StandsIn layout plan form r old new = MatchResult r
    (λ r. StandsCompleteIn layout (footer_taken layout plan r.lanes.items) plan form
    r.lanes.items r.boards old new)
    (λ e. InterruptedIn layout plan form e.cause e.lanes.items e.boards old new)

-- the report of a run that counts its candidates too
abbrev pub report_of : Result Counted RunFault → Result Report RunFault
report_of (Ok c) = Ok c.report
report_of (Err e) = Err e

-- the sink failed, once, if and only if the cause is Output
abbrev pub FailsAtOutput : {A : Type 0} → Result A RunFault → ℕ → ℕ → Type 0
FailsAtOutput r old new = MatchResult r (λ _. new ≡ old) (λ e. FaultsAfter e.cause old new)
