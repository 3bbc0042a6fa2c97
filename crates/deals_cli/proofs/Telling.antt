-- From how boards with tricks were found and told to what is said of that.
use Rattle.std.proofs.Common.{◌≡◌, ◌∙◌, ◌≤◌, ◌^◌, ℕ, ◌+◌, Bool, List, [], length, Option, None, Some, Result, Ok, Err, refl, ap, subst, inl, inr}
use Rattle.boards.specs.Captions.{captions_in}
use Rattle.cond_lang.specs.Form.{Form}
use Rattle.notations.specs.Numbers.{numbers}
use Rattle.input.specs.NumberTexts.{said}
use Rattle.input.specs.declared.numbers.fault.PickFault.{PickFault}
use Rattle.input.specs.declared.numbers.fault.PickFault.TheVariants as picks
use Rattle.boards.specs.Plans.{Planned}
use Rattle.boards.specs.Text.{accepted, end_of, text_in}
use Rattle.boards.specs.declared.cause.Cause.{Cause}
use Rattle.boards.specs.declared.cause.Cause.TheVariants.{Memory, Spawn, Output, Stopped, Unclosed}
use Rattle.input.specs.declared.refused_line.RefusedLine.{RefusedLine}
use Rattle.boards.specs.declared.report.Report.{Report}
use Rattle.jobs.specs.Jobs.{IsReadyRun}
use Rattle.jobs.specs.declared.boards_job.BoardsJob.{BoardsJob}
use Rattle.jobs.specs.declared.failure.Failure.{Failure}
use Rattle.jobs.specs.declared.failure.Failure.TheVariants.{Interrupted, Line, Input}
use Rattle.requests.specs.Requests.{Look, Search}
use Rattle.requests.specs.declared.request.Notices.{Notices}
use Rattle.requests.specs.declared.workers.Workers.{Workers}
use Rattle.input.specs.Told.{Tells, Written}
use Rattle.jobs.specs.Makings.{AreWorkers}
use Rattle.deals_cli.specs.Runs.{InterruptsRun}
use Rattle.deals_cli.specs.WithTricks.{TellsBoards}
use Rattle.deals_cli.specs.internal.Ends.{EndsFinding, EndsRead, EndsReady, Found, Wrote, finding_cause}
use Rattle.deals_cli.specs.declared.written.BoardsWritten.{BoardsWritten as Counted}
use Rattle.deals_cli.proofs.Finding.{accepted_below, accepted_short, found_is_read}
use Rattle.deals_cli.proofs.OtherWorkers.{worked_end, worked_writes}

-- what a run found
pub found_by : (plan run : Planned) (form : Form) (n : ℕ) (written : Counted) (bytes found : List ℕ)
    → run ≡ record plan { workers = n } → plan.first + plan.count ≤ 2 ^ 40
    → Wrote numbers run form written (Some []) (Some bytes) → found ≡ (said bytes).numbers → Found plan form found written.candidates written.boards
found_by plan run form n written bytes found is few h read =
    let text = worked_writes numbers plan run form n written.boards (Some []) (Some bytes) is h.text in
    let bytes_are : bytes ≡ text_in numbers plan form = ap (λ (o : Option (List ℕ)). unwrapped o) text.bytes in
    let all : found ≡ accepted plan form = read ∙ ap (λ b. (said b).numbers) bytes_are ∙ ap (λ s. s.numbers) (found_is_read plan form few) in
    rw all record {
      numbers_are = refl;
      below = accepted_below plan form few;
      few = accepted_short plan form few;
      candidates_are = h.candidates_are ∙ worked_end plan run form n is;
      boards_are = text.boards_are;
      counts = (h.few.0, subst (λ n. written.candidates ≤ n) (ap (λ (p : Planned). p.count) is) h.few.1);
    }
  where
    unwrapped : Option (List ℕ) → List ℕ
    unwrapped (Some l) = l
    unwrapped None = []

pub finding_broken : (plan run : Planned) (form : Form) (asked : Workers) (cause : Cause) (found : List ℕ) (n : ℕ)
    → AreWorkers asked n → run ≡ record plan { workers = n }
    → InterruptsRun numbers run form cause (Some []) (Some found)
    → EndsFinding plan asked form (Err (finding_cause cause))
finding_broken plan run form asked Memory found n are is h = tt
finding_broken plan run form asked Output found n are is h = tt
finding_broken plan run form asked Spawn found n are is h =
    (found, (n, are, subst (λ p. InterruptsRun numbers p form Spawn (Some []) (Some found)) is h))
finding_broken plan run form asked (Stopped w) found n are is h =
    (found, (n, are, subst (λ p. InterruptsRun numbers p form (Stopped w) (Some []) (Some found)) is h))
finding_broken plan run form asked (Unclosed w) found n are is h =
    (found, (n, are, subst (λ p. InterruptsRun numbers p form (Unclosed w) (Some []) (Some found)) is h))

-- ---- of a job

module _ (job : BoardsJob) (w : Written) (found : List ℕ) (before after old new : Option (List ℕ))
    (w_is : w ≡ record { format = job.format; show = job.show; heading = captions_in job.format job.heading })
    (found_is : found ≡ accepted job.plan job.condition) where
  tells_for : {T : Type 0} (s : Search) (l : Look) (tricks : Bool) (notices : Notices) (result : Result T PickFault)
      → IsReadyRun s l tricks notices job → Tells w job.plan found result before after old new
      → TellsBoards s l job.condition result before after old new
  tells_for s l tricks notices result ready h = rw (ready.plan_is, ready.heading_is, ready.format_is, ready.show_is) at (rw (w_is, found_is) at h)

  pub ends_told : (report : Report) (value : Unit {0}) → Tells w job.plan found (Ok value) before after old new
      → report.format ≡ job.format → report.plan ≡ job.plan
      → report.candidates ≡ end_of job.plan job.condition → report.boards ≡ length (accepted job.plan job.condition)
      → EndsReady job (Ok report) before after old new
  ends_told report value h format_is plan_is candidates boards = record {
    ends = λ s l tricks notices ready. (
      tells_for s l tricks notices (Ok value) ready h,
      record {
        format_is = format_is ∙ ready.format_is;
        plan_is = plan_is ∙ ready.plan_is;
        candidates_are = rw ready.plan_is at candidates;
        boards_are = rw ready.plan_is at boards;
      },
    );
  }

  ends_output : Tells {T = Unit {0}} w job.plan found (Err picks.Output) before after old new
      → EndsReady job (Err (Interrupted Output)) before after old new
  ends_output h = record { ends = λ s l tricks notices ready. inl (tells_for s l tricks notices (Err picks.Output) ready h, λ bad. absurd cc) }

  ends_line : (line : RefusedLine) → Tells {T = Unit {0}} w job.plan found (Err (picks.Refused line)) before after
      old new → EndsReady job (Err (Line line)) before after old new
  ends_line line h = record { ends = λ s l tricks notices ready. tells_for s l tricks notices (Err (picks.Refused line)) ready h }

  ends_input : Tells {T = Unit {0}} w job.plan found (Err picks.Input) before after old new → EndsReady job (Err Input) before after old new
  ends_input h = record { ends = λ s l tricks notices ready. tells_for s l tricks notices (Err picks.Input) ready h }

  -- where what stands before a fault of the input couldn't be passed on
  line_unflushed : (line : RefusedLine) → Tells {T = Unit {0}} w job.plan found (Err (picks.Refused line)) before
      after old new → EndsReady job (Err (Interrupted Output)) before after old new
  line_unflushed line h = record {
    ends = λ s l tricks notices ready. inr
        (refl, inl (line, tells_for s l tricks notices (Err (picks.Refused line)) ready h));
  }

  input_unflushed : Tells {T = Unit {0}} w job.plan found (Err picks.Input) before after old new
      → EndsReady job (Err (Interrupted Output)) before after old new
  input_unflushed h = record { ends = λ s l tricks notices ready. inr (refl, inr (tells_for s l tricks notices (Err picks.Input) ready h)) }

  -- however it ended
  pub ends_read : (read : Result (Unit {0}) PickFault) (failure : Failure) → Tells w job.plan found read before after old new
      → EndsRead {U = Unit {0}} read (Err failure) → EndsReady job (Err failure) before after old new
  ends_read (Err picks.Output) (Interrupted Output) h ends = ends_output h
  ends_read (Err (picks.Refused line)) (Interrupted Output) h ends = line_unflushed line h
  ends_read (Err picks.Input) (Interrupted Output) h ends = input_unflushed h
  ends_read (Err (picks.Refused line)) (Line refused) h ends = rw ends (ends_line line h)
  ends_read (Err picks.Input) Input h ends = ends_input h
  ends_read _ _ h ends = absurd ends

-- the run was interrupted
pub ends_finding : (job : BoardsJob) (cause : Cause) (at out : Option (List ℕ)) → EndsFinding job.plan job.workers job.condition (Err cause)
    → EndsReady job (Err (Interrupted cause)) at at out out
ends_finding job Memory at out h = record { ends = λ s l tricks notices ready. refl }
ends_finding job Output at out h = absurd h
ends_finding job _ at out h = record {
  ends = λ s l tricks notices ready. let run =
      rw (ready.plan_is, ready.workers_are) at h.1 in inl (
        (
          refl,
          refl,
          record { found = h.0; workers = run.0; are_workers = run.1; run = run.2 },
        ),
        λ e. refl,
      );
}

pub ends_memory : (job : BoardsJob) (at out : Option (List ℕ)) → EndsReady job (Err (Interrupted Memory)) at at out out
ends_memory job at out = record { ends = λ s l tricks notices ready. refl }
