-- What a wish that was done reports.
use Rattle.std.specs.Prelude.{◌≡◌, ℕ, Bool, List, ◌++◌, length, Option, None, Some, true, false}
use Rattle.std.specs.Prelude.{Result, Ok, Err}
use Rattle.cond_lang.specs.Form.{Form}
use Rattle.boards.specs.Text.{accepted, end_of}
use Rattle.boards.specs.Plans.{Planned}
use Rattle.jobs.specs.Makings.{Means, plan_of}
use Rattle.boards.specs.Reports.{next_line, report_line, report_of}
use Rattle.jobs.specs.Lines.{line_of}
use Rattle.jobs.specs.declared.failure.Failure.{Failure}
use Rattle.sinks.specs.Appended.{AppendsAll}
use Rattle.boards.specs.declared.format.Format.{Format}
use Rattle.requests.specs.Requests.{Look, Search, Wish, make}
use Rattle.requests.specs.declared.request.Notices.{Notices}
use Rattle.boards.specs.declared.report.Report.{Report}

-- the counts of a plan's run under a condition: the candidates are those up to the one whose board
-- met the limit, or all; the boards are those of the accepted ones
pub record Counts (format : Format) (plan : Planned) (form : Form) (report : Report)
    : Type 0 where
  pub format_is : report.format ≡ format
  pub plan_is : report.plan ≡ plan
  pub candidates_are : report.candidates ≡ end_of plan form
  pub boards_are : report.boards ≡ length (accepted plan form)

-- a run is reported if that is asked for
abbrev pub ReportsOf : Search → Look → Notices → Option Report → Type 0
ReportsOf s l notices None = notices.report ≡ false
ReportsOf s l notices (Some report) =
    (notices.report ≡ true)
    × ((form : Form) × Means s form × Counts l.format (plan_of s l) form report)

abbrev pub ReportsFor : Wish → Option Report → Type 0
ReportsFor (make s l tricks notices) report = ReportsOf s l notices report
ReportsFor _ report = report ≡ None

abbrev pub wants_report : Option Wish → Bool
wants_report (Some (make s l tricks notices)) = notices.report
wants_report _ = false

-- the report of a run was appended
abbrev pub Reports : Search → Look → Option (List ℕ) → Option (List ℕ) → Type 0
Reports s l old new =
    (form : Form) × Means s form
    × AppendsAll old new (report_of l.format (plan_of s l) form)

-- what is said of how it ended, if the error output took all: a report, if there is one, or a
-- failure's line
abbrev pub report_text : Report → List ℕ
report_text r =
    report_line r.plan r.candidates r.boards ++ next_line r.format r.plan r.candidates r.boards

abbrev pub SaysReport : Option Report → Type 0 → (old new : Option (List ℕ)) → Type 0
SaysReport None took_all old new = new ≡ old
SaysReport (Some r) took_all old new = took_all → AppendsAll old new (report_text r)

abbrev pub Says : Result (Option Report) Failure → Type 0 → (old new : Option (List ℕ)) → Type 0
Says (Ok report) took_all old new = SaysReport report took_all old new
Says (Err failure) took_all old new = took_all → AppendsAll old new (line_of failure)
