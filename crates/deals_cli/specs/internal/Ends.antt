-- How the parts of a job end.
use Rattle.std.specs.Prelude.{◌≡◌, ◌⊎◌, ◌≤◌, ◌<◌, ◌^◌, ℕ, Bool, ◌+◌, All, length, List, [], Option, Some}
use Rattle.std.specs.Prelude.{Result, Ok, Err, false}
use Rattle.dealrun.specs.Headline.{WritesTextIn}
use Rattle.dealrun.specs.Interrupted.{FaultsAfter}
use Rattle.boards.specs.declared.cause.Cause.{Cause}
use Rattle.boards.specs.declared.cause.Cause.TheVariants.{Memory, Output, Spawn}
use Rattle.boards.specs.Layouts.{Layout}
use Rattle.notations.specs.Formats.{layout_showing}
use Rattle.cond_lang.specs.Meaning.{holds}
use Rattle.boards.specs.Plans.{Planned, candidate_of}
use Rattle.boards.specs.Text.{accepted, end_of}
use Rattle.jobs.specs.Makings.{AreWorkers, plan_of}
use Rattle.requests.specs.Requests.{Look, Search}
use Rattle.cond_lang.specs.Form.{Form}
use Rattle.input.specs.declared.refused_line.RefusedLine.{RefusedLine}
use Rattle.deals_cli.specs.Wishes.{IsDrawn, seed_text}
use Rattle.deals_cli.specs.WithTricks.{BreaksTold, FailsTold, StopsAtLine, WritesTold}
use Rattle.deals_cli.specs.declared.tricks_job.FoundNumbers.{FoundNumbers}
use Rattle.notations.specs.Numbers.{numbers}
use Rattle.requests.specs.declared.workers.Workers.{Workers}
use Rattle.input.specs.FourBytes.{EndsBefore}
use Rattle.input.specs.declared.numbers.fault.PickFault.{PickFault}
use Rattle.input.specs.declared.numbers.fault.PickFault.TheVariants as picks
use Rattle.input.specs.Shown.{FaultsOf}
use Rattle.boards.specs.Captions.{captions_in}
use Rattle.deals_cli.specs.Picked.{PicksAs}
use Rattle.deals_cli.specs.Shown.{FailsFirst, ShowsUnder}
use Rattle.input.specs.declared.records.shown.ShowFault.{ShowFault}
use Rattle.input.specs.declared.records.shown.ShowFault.TheVariants as shown
use Rattle.jobs.specs.Counting.{table_by}
use Rattle.deals_cli.specs.Formats.{text_showing}
use Rattle.jobs.specs.Jobs.{IsReadyRun}
use Rattle.deals_cli.specs.Runs.{InterruptsRun}
use Rattle.requests.specs.declared.request.Notices.{Notices}
use Rattle.deals_cli.specs.Reported.{Counts}
use Rattle.jobs.specs.declared.failure.Failure.{Failure}
use Rattle.jobs.specs.declared.failure.Failure.TheVariants.{EndOfInput, Input, Interrupted, Line}
use Rattle.jobs.specs.declared.failure.Failure.TheVariants.{Record}
use Rattle.jobs.specs.declared.boards_job.BoardsJob.{BoardsJob}
use Rattle.jobs.specs.declared.count_job.CountJob.{CountJob}
use Rattle.jobs.specs.declared.job.PickJob.{PickJob}
use Rattle.jobs.specs.declared.job.ShowJob.{ShowJob}
use Rattle.boards.specs.declared.report.Report.{Report}
use Rattle.deals_cli.specs.declared.written.BoardsWritten.{BoardsWritten}
use Rattle.sinks.specs.Appended.{AppendsAll, AppendsPart}
use Rattle.input.specs.Told.{FaultsIn, InputFaultsIn}
use Rattle.statistics.specs.Counting.{counting}
use Rattle.statistics.specs.Subjects.{subject_of}

-- no deal of the plan meets the condition
abbrev pub AcceptsNone : Planned → Form → Type 0
AcceptsNone plan form = (k : ℕ) → holds form (candidate_of plan k) ≡ false

-- a run of the plan over some of the workers that are asked for was interrupted
abbrev pub InterruptsWorked : Layout → Planned → Workers → Form → Cause
    → (old new : Option (List ℕ)) → Type 0
InterruptsWorked layout plan asked form cause old new =
    (workers : ℕ) × AreWorkers asked workers
    × InterruptsRun layout (record plan { workers = workers }) form cause old new

-- a run wrote the plan's text, and was counted
pub record Wrote (layout : Layout) (plan : Planned) (form : Form) (written : BoardsWritten)
    (old new : Option (List ℕ)) : Type 0 where
  pub text : WritesTextIn layout plan form written.boards old new
  pub candidates_are : written.candidates ≡ end_of plan form
  pub few : (written.boards ≤ written.candidates) × (written.candidates ≤ plan.count)

abbrev pub EndsWritten : Layout → Planned → Form → Result BoardsWritten Cause
    → (old new : Option (List ℕ)) → Type 0
EndsWritten layout plan form (Ok written) old new = Wrote layout plan form written old new
EndsWritten layout plan form (Err cause) old new = InterruptsRun layout plan form cause old new

-- a run wrote its text and was counted, or was interrupted
abbrev pub EndsBoards : BoardsJob → Result Report Cause → (old new : Option (List ℕ)) → Type 0
EndsBoards job (Ok report) old new =
    AppendsAll old new
    (text_showing job.format job.show (captions_in job.format job.heading) job.plan job.condition)
    × Counts job.format job.plan job.condition report
EndsBoards job (Err cause) old new =
    InterruptsWorked (layout_showing job.format job.show (captions_in job.format job.heading))
    job.plan job.workers
    job.condition cause old new

-- the plan with this many workers as are asked for
abbrev pub IsWorked : Planned → Workers → Planned → Type 0
IsWorked plan asked worked =
    (workers : ℕ) × AreWorkers asked workers × (worked ≡ record plan { workers = workers })

-- a run found the numbers of the accepted candidates and was counted, or was interrupted
pub record Found (plan : Planned) (form : Form) (found : List ℕ) (candidates boards : ℕ)
    : Type 0 where
  pub numbers_are : found ≡ accepted plan form
  pub below : All (λ k. k < 2 ^ 40) found
  pub few : length found ≤ 2 ^ 40
  pub candidates_are : candidates ≡ end_of plan form
  pub boards_are : boards ≡ length (accepted plan form)
  pub counts : (boards ≤ candidates) × (candidates ≤ plan.count)

abbrev pub InterruptsFound : Planned → Workers → Form → Cause → Type 0
InterruptsFound plan asked form cause =
    (found : List ℕ) × InterruptsWorked numbers plan asked form cause (Some []) (Some found)

-- the numbers are written to memory
abbrev pub finding_cause : Cause → Cause
finding_cause Output = Memory
finding_cause cause = cause

abbrev pub EndsFinding : Planned → Workers → Form → Result FoundNumbers Cause → Type 0
EndsFinding plan asked form (Ok f) =
    Found plan form f.numbers.items f.written.candidates f.written.boards
EndsFinding plan asked form (Err Memory) = Unit {0}
EndsFinding plan asked form (Err Output) = ⊥
EndsFinding plan asked form (Err cause) = InterruptsFound plan asked form cause

-- a run wrote its table, or was interrupted
abbrev pub EndsCount : {T : Type 0} → CountJob → Result T Cause
    → (old new : Option (List ℕ)) → Type 0
EndsCount job (Ok value) old new =
    AppendsAll old new (table_by job.style (subject_of job.subject) job.plan job.condition)
EndsCount job (Err cause) old new =
    InterruptsWorked (counting job.style (subject_of job.subject)) job.plan job.workers
    job.condition cause old new

-- the output failed once if the cause is that, and else not
abbrev pub FaultsOfRun : {T : Type 0} → Result T Cause → ℕ → ℕ → Type 0
FaultsOfRun (Ok value) old new = new ≡ old
FaultsOfRun (Err cause) old new = FaultsAfter cause old new

-- boards were picked, or memory ran out before
abbrev pub EndsPicked : {T E : Type 0} → (tricks : Bool) → PickJob → Result (Result T PickFault) E
    → (before after old new : Option (List ℕ)) → Type 0
EndsPicked tricks job (Ok result) before after old new =
    PicksAs tricks job.format job.show (captions_in job.format job.heading) job.plan result
    before after old new
EndsPicked tricks job (Err e) before after old new = (after ≡ before) × (new ≡ old)

abbrev pub FaultsPicked : {T E : Type 0} → Result (Result T PickFault) E → (old new : ℕ) → Type 0
FaultsPicked (Ok result) old new = FaultsIn result old new
FaultsPicked (Err e) old new = new ≡ old

abbrev pub CountsPicked : {T E : Type 0} → Result (Result T PickFault) E → (old new : ℕ) → Type 0
CountsPicked (Ok result) old new = InputFaultsIn result old new
CountsPicked (Err e) old new = new ≡ old

abbrev pub PicksFor : {T : Type 0} → PickJob → Result T PickFault
    → (before after old new : Option (List ℕ)) → Type 0
PicksFor job result before after old new =
    PicksAs job.tricks job.format job.show (captions_in job.format job.heading) job.plan result
    before after old new

-- how a job ends whose input was read so: the output may also fail where what is before a fault of
-- the input is passed on
abbrev pub EndsRead : {T U : Type 0} → Result T PickFault → Result U Failure → Type 0
EndsRead (Ok value) (Ok done) = Unit {0}
EndsRead (Err fault) (Err (Interrupted Output)) = Unit {0}
EndsRead (Err (picks.Refused line)) (Err (Line refused)) = refused ≡ line
EndsRead (Err picks.Input) (Err Input) = Unit {0}
EndsRead read result = ⊥

-- picking wrote all boards, or ended with a fault. The output may also fail where what is
-- before a fault of the input is passed on
abbrev pub EndsPicking : {T : Type 0} → PickJob → Result T Failure
    → (before after old new : Option (List ℕ)) → Type 0
EndsPicking job (Ok value) before after old new =
    PicksFor {T = Unit {0}} job (Ok tt) before after old new
EndsPicking job (Err (Interrupted Memory)) before after old new =
    (after ≡ before) × (new ≡ old)
EndsPicking job (Err (Interrupted Output)) before after old new =
    (fault : PickFault) × PicksFor {T = Unit {0}} job (Err fault) before after old new
EndsPicking job (Err (Line line)) before after old new =
    PicksFor {T = Unit {0}} job (Err (picks.Refused line)) before after old new
EndsPicking job (Err Input) before after old new =
    PicksFor {T = Unit {0}} job (Err picks.Input) before after old new
EndsPicking job (Err failure) before after old new = ⊥

-- boards were shown, or the first read of the input failed, and nothing was written
abbrev pub ShowsFor : ShowJob → Result ℕ ShowFault
    → (before after old new : Option (List ℕ)) → Type 0
ShowsFor job result before after old new =
    ShowsUnder job.format job.show job.heading result before after old new

abbrev pub EndsShown : ShowJob → Result ℕ ShowFault
    → (before after old new : Option (List ℕ)) → Type 0
EndsShown job (Err shown.Input) before after old new =
    FailsFirst before after old new ⊎ ShowsFor job (Err shown.Input) before after old new
EndsShown job result before after old new = ShowsFor job result before after old new

-- the input failed once if that ended it; where the output failed, it may have failed before
abbrev pub CountsShown : {E : Type 0} → Result (Result ℕ ShowFault) E → (old new : ℕ) → Type 0
CountsShown (Ok (Err shown.Input)) old new = new ≡ old + 1
CountsShown (Ok (Err shown.Output)) old new = (new ≡ old) ⊎ (new ≡ old + 1)
CountsShown _ old new = new ≡ old

abbrev pub FaultsShown : {E : Type 0} → Result (Result ℕ ShowFault) E → (old new : ℕ) → Type 0
FaultsShown (Ok result) old new = FaultsOf result old new
FaultsShown (Err e) old new = new ≡ old

-- showing wrote all boards, or ended with a fault. The output may also fail where what is before
-- a fault of the input is passed on
abbrev pub EndsShowing : {T : Type 0} → ShowJob → Result T Failure
    → (before after old new : Option (List ℕ)) → Type 0
EndsShowing job (Ok value) before after old new =
    (boards : ℕ) × ShowsFor job (Ok boards) before after old new
EndsShowing job (Err (Interrupted Memory)) before after old new = new ≡ old
EndsShowing job (Err (Interrupted Output)) before after old new =
    FailsFirst before after old new
    ⊎ ((fault : ShowFault) × ShowsFor job (Err fault) before after old new)
EndsShowing job (Err (Record line)) before after old new =
    ShowsFor job (Err (shown.Refused line)) before after old new
EndsShowing job (Err Input) before after old new =
    FailsFirst before after old new ⊎ ShowsFor job (Err shown.Input) before after old new
EndsShowing job (Err failure) before after old new = ⊥

-- a run over boards with tricks ended after its lines were read, for a wish of this search and look
abbrev pub EndsTricks : Search → Look → Form → Result Report Failure
    → (before after old new : Option (List ℕ)) → Type 0
EndsTricks s l form (Ok report) before after old new =
    WritesTold s l form before after old new × Counts l.format (plan_of s l) form report
EndsTricks s l form (Err (Interrupted Memory)) before after old new = new ≡ old
EndsTricks s l form (Err (Interrupted cause)) before after old new =
    (BreaksTold s l form cause before after old new × (cause ≡ Spawn → new ≡ old))
    ⊎ ((cause ≡ Output)
    × (((line : RefusedLine) × StopsAtLine s l form line before after old new)
    ⊎ FailsTold s l form before after old new))
EndsTricks s l form (Err (Line line)) before after old new =
    StopsAtLine s l form line before after old new
EndsTricks s l form (Err Input) before after old new = FailsTold s l form before after old new
EndsTricks s l form (Err failure) before after old new = ⊥

-- a seed was drawn, or the input was at fault, or the output failed
abbrev pub EndsDraw : {T : Type 0} → Result T Failure
    → (before after old new : Option (List ℕ)) → Type 0
EndsDraw (Ok value) before after old new =
    (bytes : List ℕ) × IsDrawn bytes before after × AppendsAll old new (seed_text bytes)
EndsDraw (Err (Interrupted Output)) before after old new =
    (new ≡ old)
    ⊎ ((bytes : List ℕ) × IsDrawn bytes before after × AppendsPart old new (seed_text bytes))
EndsDraw (Err Input) before after old new = new ≡ old
EndsDraw (Err EndOfInput) before after old new = (new ≡ old) × EndsBefore 4 before after
EndsDraw (Err failure) before after old new = ⊥

-- a run over boards with tricks ended so, whatever the wish that the job is ready for
pub record EndsReady (job : BoardsJob) (r : Result Report Failure)
    (before after old new : Option (List ℕ)) : Type 0 where
  pub ends : (s : Search) (l : Look) (tricks : Bool) (notices : Notices)
      → IsReadyRun s l tricks notices job → EndsTricks s l job.condition r before after old new
