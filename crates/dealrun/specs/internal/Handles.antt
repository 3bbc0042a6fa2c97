-- The handles of workers that were started.
use Rattle.std.specs.Prelude.{◌≡◌, List, [], All, false, map}
use Rattle.std.specs.declared.thread.PromisedHandle.{PromisedHandle}
use Rattle.lanes.specs.Jobs.{verdicts_around}
use Rattle.lanes.specs.declared.verdict.Verdict.{Verdict}
use Rattle.lanes.specs.declared.worker.WorkEnd.{WorkEnd}
use Rattle.lanes.specs.Views.{OutView}
use Rattle.dealrun.specs.declared.start.EndsAsAssigned.{EndsAsAssigned}

-- what the workers with these handles owe
abbrev pub owed_by : List (PromisedHandle WorkEnd EndsAsAssigned) → List (List Verdict)
owed_by handles = map (λ h. verdicts_around h.promise.job.value) handles

-- nothing was taken from the lane, and its end isn't known
abbrev pub IsIdle : OutView → Type 0
IsIdle l = (l.taken ≡ []) × (l.settled ≡ false)

-- each worker has the ring of its lane, and the lanes are idle
abbrev pub HaveLanes : List (PromisedHandle WorkEnd EndsAsAssigned) → List OutView → Type 0
HaveLanes handles lanes =
    (map (λ h. h.promise.lane.value.ring) handles ≡ map (λ l. l.ring) lanes) × All IsIdle lanes
