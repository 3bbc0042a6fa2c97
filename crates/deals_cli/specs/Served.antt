-- What is done for a wish, and how it ends.
use Rattle.std.specs.Prelude.{◌≡◌, List, ℕ, true, Option, Result, IfErr, IfOk, OnOk}
use Rattle.jobs.specs.Failures.{is_untouched, status_in}
use Rattle.jobs.specs.FirstRefusal.{IsDueFor}
use Rattle.jobs.specs.Statuses.{IsStatusOf}
use Rattle.jobs.specs.declared.failure.Failure.{Failure}
use Rattle.requests.specs.Requests.{Wish}
use Rattle.deals_cli.specs.Interruptions.{LeavesFrom}
use Rattle.deals_cli.specs.Reported.{ReportsFor}
use Rattle.deals_cli.specs.Wishes.{AppendsFrom}
use Rattle.boards.specs.declared.report.Report.{Report}

-- a wish was done, or failed: `before` and `after` are what the input had to give before and
-- after it, `old` and `new` what the output had taken
pub record Serves (w : Wish) (r : Result (Option Report) Failure)
    (before after old new : Option (List ℕ)) : Type 0 where
  -- all that is asked for was written, on Ok, and its report made, if one was asked for
  pub text : OnOk r (AppendsFrom w before after old new)
  pub report : IfOk r (ReportsFor w)
  -- the status says what of it was accepted, and what refused
  pub status : IsStatusOf w (status_in r)
  -- nothing was written if something is refused, memory ran out or a thread wasn't started
  pub untouched : IfErr r (λ e. is_untouched e ≡ true → new ≡ old)
  -- what a failure leaves: of a text without a run a proper prefix, of a run what it took, of a
  -- `pick`, of a `show` and of boards with tricks those up to the fault
  pub stands : IfErr r (λ e. LeavesFrom w e before after old new)
  -- the failure that is told is the first that is due
  pub due : IfErr r (IsDueFor w)
