-- What is ready to be done for a wish, and what refuses it.
use Rattle.std.specs.Prelude.{◌≡◌, Bool, string_bytes, true}
use Rattle.requests.specs.Lessons.{lessons_text}
use Rattle.jobs.specs.Counting.{IsAsked}
use Rattle.jobs.specs.Failures.{is_refusal, status_of}
use Rattle.jobs.specs.FirstRefusal.{IsDueFor}
use Rattle.jobs.specs.Makings.{HasLabels, IsPlanned, Means, heading_of, plan_of}
use Rattle.jobs.specs.Statuses.{IsStatusOf}
use Rattle.jobs.specs.declared.boards_job.BoardsJob.{BoardsJob}
use Rattle.jobs.specs.declared.failure.Failure.{Failure}
use Rattle.jobs.specs.declared.job.Job.{Job}
use Rattle.jobs.specs.declared.job.Job.TheVariants.{Boards, Conditions, Count, Lessons, Pick, Seed}
use Rattle.jobs.specs.declared.job.Job.TheVariants.{Show, Stream}
use Rattle.requests.specs.Requests.{Look, Search, Wish, conditions, count, draw, make}
use Rattle.requests.specs.Requests.{lessons, no_search, numbers_look}
use Rattle.requests.specs.Requests.{pick, show, stream}
use Rattle.requests.specs.declared.request.Notices.{Notices}
use Rattle.statistics.specs.Subjects.{subject_of}

-- the job does what is wished for: its plan, its labels, its hands, its condition and its questions
-- are accepted
pub record IsReadyRun (s : Search) (l : Look) (tricks : Bool) (notices : Notices) (job : BoardsJob)
    : Type 0 where
  pub planned : IsPlanned s l
  pub plan_is : job.plan ≡ plan_of s l
  pub means : Means s job.condition
  pub heading_is : job.heading ≡ heading_of l
  pub format_is : job.format ≡ l.format
  pub show_is : job.show ≡ l.show
  pub tricks_are : job.tricks ≡ tricks
  pub workers_are : job.workers ≡ s.workers
  pub report_is : job.report ≡ notices.report

abbrev pub IsReady : Wish → Job → Type 0
IsReady (make s l tricks notices) (Boards job) = IsReadyRun s l tricks notices job
IsReady draw Seed = Unit {0}
IsReady (count s questions style notices) (Count job) =
    IsPlanned s numbers_look × (job.plan ≡ plan_of s numbers_look)
    × Means s job.condition × IsAsked s.let_text questions (subject_of job.subject)
    × (job.style ≡ style) × (job.workers ≡ s.workers)
IsReady (pick seed hands l tricks hints) (Pick job) =
    IsPlanned (no_search seed hands) l × (job.plan ≡ plan_of (no_search seed hands) l)
    × (job.heading ≡ heading_of l) × (job.format ≡ l.format) × (job.show ≡ l.show)
    × (job.tricks ≡ tricks)
IsReady (show l hints) (Show job) =
    HasLabels l × (job.format ≡ l.format) × (job.show ≡ l.show) × (job.heading ≡ heading_of l)
IsReady conditions Conditions = Unit {0}
IsReady (lessons l) (Lessons text) = string_bytes text ≡ lessons_text l
IsReady (stream seed n) (Stream r) = (r.seed ≡ seed) × (r.count ≡ n)
IsReady _ _ = ⊥

-- the job reads the input
abbrev pub ReadsInput : Job → Type 0
ReadsInput (Boards job) = job.tricks ≡ true
ReadsInput (Pick job) = Unit {0}
ReadsInput (Show job) = Unit {0}
ReadsInput Seed = Unit {0}
ReadsInput _ = ⊥

-- the wish is refused so, or memory ran out, before anything was done
pub record IsRefused (w : Wish) (failure : Failure) : Type 0 where
  pub due : IsDueFor w failure
  pub status : IsStatusOf w (status_of failure)
  pub nothing_done : is_refusal failure ≡ true
