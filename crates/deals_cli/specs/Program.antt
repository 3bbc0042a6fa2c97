-- How the program ends for words that ask for nothing, for others `Wishes` says it;
-- and what it says and leaves of a failure.
use Rattle.std.specs.Prelude.{◌≡◌, ◌⊎◌, ℕ, Bool, true, false, List, [], Option, None, Some}
use Rattle.std.specs.Prelude.{Result, Err, IfErr, IfOk, OnOk, string_bytes}
use Rattle.clap.specs.Kinds.{IsAmong}
use Rattle.clap.specs.Walk.{Text}
use Rattle.clap.specs.declared.error.kind.ErrorKind.{ErrorKind}
use Rattle.clap.specs.declared.error.kind.ErrorKind.TheVariants as kind
use Rattle.boards.specs.declared.cause.Cause.TheVariants.{Memory, Output}
use Rattle.sinks.specs.Appended.{AppendsAll}
use Rattle.jobs.specs.Failures.{CountsInput, is_refusal, is_untouched, status_of}
use Rattle.jobs.specs.FirstRefusal.{IsDueFor}
use Rattle.deals_cli.specs.Interruptions.{LeavesFrom}
use Rattle.jobs.specs.Lines.{line_of}
use Rattle.deals_cli.specs.Reported.{Reports, ReportsFor, wants_report}
use Rattle.jobs.specs.Jobs.{IsReady, ReadsInput}
use Rattle.requests.specs.Requests.{Look, Search, Wish, make}
use Rattle.jobs.specs.Statuses.{parts_of}
use Rattle.boards.specs.declared.report.Report.{Report}
use Rattle.requests.specs.declared.request.Notices.{Notices}
use Rattle.jobs.specs.declared.failure.Failure.{Failure}
use Rattle.jobs.specs.declared.failure.Failure.TheVariants.{CommandLine, Interrupted}
use Rattle.command_line.specs.CommandLine.{asked, kinds_for}
use Rattle.deals_cli.specs.declared.task.Task.{Task}
use Rattle.deals_cli.specs.declared.task.Task.TheVariants.{Show, Do}
pub use Rattle.jobs.specs.Failures.{status_in}
pub use Rattle.jobs.specs.Makings.{CanDate, CanLabel, HasLabels, HasNumbers, IsPlanned}
pub use Rattle.jobs.specs.Makings.{Means, plan_of}
pub use Rattle.jobs.specs.Statuses.{Parts, parts_of}
pub use Rattle.deals_cli.specs.Wishes.{Appends, AppendsFrom}
pub use Rattle.jobs.specs.Statuses.{IsStatus, IsStatusOf, IsStatusWithInput}

-- clap shows its help and its version; any other kind is a mistake in the words
abbrev pub is_shown : ErrorKind → Bool
is_shown kind.DisplayHelp = true
is_shown kind.DisplayVersion = true
is_shown _ = false

-- clap may show something for these words
pub record MayShow (words : List Text) : Type 0 where
  pub kind : ErrorKind
  pub among : IsAmong kind (kinds_for words)
  pub shown : is_shown kind ≡ true

-- clap may refuse these words
pub record MayRefuse (words : List Text) : Type 0 where
  pub kind : ErrorKind
  pub among : IsAmong kind (kinds_for words)
  pub refused : is_shown kind ≡ false

-- what the status says of words that ask for nothing; that memory ran out, 5, can end each
pub record IsStatusOfNone (words : List Text) (status : ℕ) : Type 0 where
  -- help or the version was asked for, and the output took it or failed
  pub shown : (status ≡ 0) ⊎ (status ≡ 4) → MayShow words
  -- the words are refused
  pub refused : status ≡ 2 → MayRefuse words
  -- there is no condition, no run and no input
  pub neither : (status ≡ 3) ⊎ (status ≡ 6) ⊎ (status ≡ 7) → ⊥

-- what the program's status says of words, by what they ask for
pub record IsStatusFor (words : List Text) (status : ℕ) : Type 0 where
  pub wished : (w : Wish) → asked words ≡ Some w → IsStatusOf w status
  pub unasked : asked words ≡ None → IsStatusOfNone words status

-- a wish fails so: memory ran out, as it may while the words are read, or the failure is due
abbrev pub MayFail : Wish → Failure → Type 0
MayFail w failure = (failure ≡ Interrupted Memory) ⊎ IsDueFor w failure

-- words that ask for nothing fail so: clap refuses them, memory ran out, or the output failed
abbrev pub FailsUnasked : Failure → Type 0
FailsUnasked (CommandLine text) = Unit {0}
FailsUnasked (Interrupted Memory) = Unit {0}
FailsUnasked (Interrupted Output) = Unit {0}
FailsUnasked failure = ⊥

-- what a wish leaves that fails so; if it was the flush that failed, all of it
abbrev pub MayLeave : Wish → Failure → (before after old new : Option (List ℕ)) → Type 0
MayLeave w failure before after old new =
    LeavesFrom w failure before after old new
    ⊎ ((failure ≡ Interrupted Output) × AppendsFrom w before after old new)

-- the task is what the words ask for: a text of clap, or a job
abbrev pub IsTaskFor : List Text → Task → Type 0
IsTaskFor words (Show text) = (asked words ≡ None) × MayShow words
IsTaskFor words (Do job) = (w : Wish) × (asked words ≡ Some w) × IsReady w job

-- the text of a task that is one is written, if the output took it
abbrev pub WritesText : Task → Result (Option Report) Failure
    → (old new : Option (List ℕ)) → Type 0
WritesText (Show text) r old new = OnOk r (AppendsAll old new (string_bytes text))
WritesText (Do job) r old new = Unit {0}

-- the task reads the input, and the words ask for what does: a `pick`, a `show`, a seed, boards
-- with tricks
abbrev pub ReadsTask : Task → Type 0
ReadsTask (Show text) = ⊥
ReadsTask (Do job) = ReadsInput job

abbrev pub WantsInput : List Text → Type 0
WantsInput words = (w : Wish) × (asked words ≡ Some w) × (parts_of w).input

-- the words ask for what may end because the input has too few bytes: a seed, or boards with tricks
abbrev pub WantsBytes : List Text → Type 0
WantsBytes words = (w : Wish) × (asked words ≡ Some w) × (parts_of w).bytes

-- where all was done, or the input failed, what was written is passed on
abbrev pub IsFlushedAfter : ℕ → Type 0 → Type 0
IsFlushedAfter status is_flushed = (status ≡ 0) ⊎ (status ≡ 7) → is_flushed

-- the words are refused so, or memory ran out, before anything was done
pub record AreRefused (words : List Text) (failure : Failure) : Type 0 where
  pub nothing_done : is_refusal failure ≡ true
  pub status : IsStatusFor words (status_of failure)
  pub due : (w : Wish) → asked words ≡ Some w → MayFail w failure
  pub unasked : asked words ≡ None → FailsUnasked failure

-- what was done for words: `before` and `after` are what the input had to give before and after
-- it, `old` and `new` what the output had taken
pub record Answers (words : List Text) (r : Result (Option Report) Failure)
    (before after old new : Option (List ℕ)) : Type 0 where
  pub text : (w : Wish) → asked words ≡ Some w → OnOk r (AppendsFrom w before after old new)
  pub report : (w : Wish) → asked words ≡ Some w → IfOk r (ReportsFor w)
  pub no_report : asked words ≡ None → IfOk r (λ report. report ≡ None)
  pub status : IsStatusFor words (status_in r)
  pub due : (w : Wish) → asked words ≡ Some w → IfErr r (MayFail w)
  pub unasked : asked words ≡ None → IfErr r FailsUnasked
  pub stands : (w : Wish) → asked words ≡ Some w
      → IfErr r (λ e. MayLeave w e before after old new)
  pub untouched : IfErr r (λ e. is_untouched e ≡ true → new ≡ old)

-- what the error output was given by words that were done: the report that they ask for, if it took
-- all, and nothing if they ask for none
pub record HasReport (words : List Text) (took_all : Type 0)
    (old new : Option (List ℕ)) : Type 0 where
  pub reported : (s : Search) (l : Look) (tricks : Bool) (notices : Notices)
      → asked words ≡ Some (make s l tricks notices) → notices.report ≡ true → took_all
      → Reports s l old new
  pub quiet : wants_report (asked words) ≡ false → new ≡ old

-- why a wish failed with this status: the failure is due, the output has what it leaves by what the
-- input had to give before and after it, the input failed as often as the failure says, and the
-- error output, if it took all that it was given, has its line
pub record TellsWhyFrom (w : Wish) (status : ℕ) (before after : Option (List ℕ))
    (input_old input_new : ℕ) (out_old out_new : Option (List ℕ))
    (took_all : Type 0) (err_old err_new : Option (List ℕ)) : Type 0 where
  pub failure : Failure
  pub due : MayFail w failure
  pub status_is : status ≡ status_of failure
  pub stands : MayLeave w failure before after out_old out_new
  pub input : CountsInput {T = Option Report} (Err failure) input_old input_new
  pub line : took_all → AppendsAll err_old err_new (line_of failure)

-- the same without an input
abbrev pub TellsWhy : Wish → ℕ → (out_old out_new : Option (List ℕ)) → Type 0
    → (err_old err_new : Option (List ℕ)) → Type 0
TellsWhy w status out_old out_new took_all err_old err_new =
    TellsWhyFrom w status (Some []) (Some []) 0 0 out_old out_new took_all err_old err_new

-- why words that ask for nothing failed with this status: the error output, if it took all that it
-- was given, has the line of the failure
pub record TellsUnasked (status : ℕ) (took_all : Type 0)
    (err_old err_new : Option (List ℕ)) : Type 0 where
  pub failure : Failure
  pub fails : FailsUnasked failure
  pub status_is : status ≡ status_of failure
  pub line : took_all → AppendsAll err_old err_new (line_of failure)
