-- The headline: what holds when a run returns Ok. It is two records: what was taken from the lanes,
-- and what was written.
use Rattle.std.specs.Prelude.{ℕ, ◌≡◌, ◌≢◌, List, [], ◌++◌, All, length, map, take, Option, Some}
use Rattle.std.specs.Prelude.{true}
use Rattle.std.specs.List.{enumerate_from, range_with_len}
use Rattle.boards.specs.Layouts.{Layout}
use Rattle.cards.specs.Deals.{IsPartition}
use Rattle.conditions.specs.Form.{Form}
use Rattle.lanes.specs.declared.verdict.Verdict.{Verdict}
use Rattle.lanes.specs.Verdicts.{turns}
use Rattle.lanes.specs.Views.{OutView}
use Rattle.lanes.specs.Prefixes.{IsPrefix}
use Rattle.boards.specs.Plans.{Planned, candidate_of}
use Rattle.boards.specs.Text.{accepted, end_of, text_in}
use Rattle.sinks.specs.Appended.{AppendsAll}
use Rattle.lanes.specs.Jobs.{verdicts_for}

-- one item for each worker of the plan, by its number
abbrev pub for_each_worker : {A : Type 0} → Planned → (ℕ → A) → List A
for_each_worker plan f = map f (range_with_len 0 plan.workers)

-- P holds of each lane and its number
abbrev pub EachLane : List OutView → (ℕ → OutView → Type 0) → Type 0
EachLane lanes P = All (λ p. P p.0 p.1) (enumerate_from 0 lanes)

abbrev pub AllSettled : List OutView → Type 0
AllSettled lanes = All (λ l. l.settled ≡ true) lanes

-- what was taken from a lane, followed by what is left in it
abbrev pub contents_of : OutView → List Verdict
contents_of l = l.taken ++ l.left

-- the lanes: what was taken from each is its worker's verdicts, each once, in the order in which
-- the worker owes and sends them, and nothing after its close
pub record TakesWhatIsOwed (plan : Planned) (form : Form) (lanes : List OutView) (boards : ℕ)
    : Type 0 where
  -- there is a lane for each worker, and its first verdicts were taken, as many as are needed
  pub taken :
      map (λ l. l.taken) lanes ≡ for_each_worker plan
      (λ w. take (turns plan.workers w (end_of plan form)) (verdicts_for plan form w))
  -- each lane was closed, and the writer saw it: nothing can follow what is told here
  pub settled : AllSettled lanes
  -- what is left follows what was taken in its worker's verdicts
  pub sent : EachLane lanes (λ w l. IsPrefix (contents_of l) (verdicts_for plan form w))
  -- unless the limit of boards was met, all verdicts were taken and none is left
  pub whole : plan.limit ≢ Some boards
      → (map (λ l. l.taken) lanes ≡ for_each_worker plan (verdicts_for plan form))
      × All (λ l. l.left ≡ []) lanes

-- the text, if the sink tells its bytes; how many boards it has; and that each of their deals is a
-- partition of the pack
pub record WritesTextIn (layout : Layout) (plan : Planned) (form : Form) (boards : ℕ)
    (old new : Option (List ℕ)) : Type 0 where
  pub bytes : AppendsAll old new (text_in layout plan form)
  pub boards_are : boards ≡ length (accepted plan form)
  pub partitions : All IsPartition (map (candidate_of plan) (accepted plan form))
