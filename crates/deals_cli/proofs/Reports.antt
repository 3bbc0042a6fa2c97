-- What is said of a wish that was done.
use Rattle.std.proofs.Common.{◌≡◌, ◌∙◌, ◌++◌, ℕ, Bool, true, false, List, Option, None, Some, refl, sym, ap, ap₂}
use Rattle.cond_lang.specs.Form.{Form}
use Rattle.boards.specs.Plans.{Planned}
use Rattle.sinks.specs.Appended.{AppendsAll, append_known}
use Rattle.jobs.specs.Makings.{plan_of}
use Rattle.deals_cli.specs.Reported.{Counts, Reports, ReportsFor, wants_report}
use Rattle.boards.specs.Reports.{next_line, report_line, report_of}
use Rattle.requests.specs.Requests.{Look, Search, Wish, make}
use Rattle.requests.specs.declared.request.Notices.{Notices}
use Rattle.boards.specs.declared.format.Format.{Format}
use Rattle.boards.specs.declared.report.Report.{Report}

same_text : (format : Format) (plan : Planned) (form : Form) (r : Report) → Counts format plan form r
    → report_line r.plan r.candidates r.boards ++ next_line r.format r.plan r.candidates r.boards ≡ report_of format plan form
same_text format plan form r h =
    ap₂ (λ (f : Format) (p : Planned). report_line p r.candidates r.boards ++ next_line f p r.candidates r.boards) h.format_is h.plan_is
    ∙ ap₂ (λ (n b : ℕ). report_line plan n b ++ next_line format plan n b) h.candidates_are h.boards_are

-- the report of a `make` was said
pub said : (s : Search) (l : Look) (tricks : Bool) (notices : Notices) (r : Report) (old new : Option (List ℕ))
    → ReportsFor (make s l tricks notices) (Some r)
    → AppendsAll old new (report_line r.plan r.candidates r.boards ++ next_line r.format r.plan r.candidates r.boards) → Reports s l old new
said s l tricks notices r old new h text =
    let counts = h.1 in
    (counts.0, counts.1, text ∙ ap (append_known old) (same_text l.format (plan_of s l) counts.0 r counts.2))

-- no report is made unless it is asked for
pub none_made : (o : Option Wish) (r : Report) → ((w : Wish) → o ≡ Some w → ReportsFor w (Some r))
    → (o ≡ None → Some r ≡ None) → wants_report o ≡ false → ⊥
none_made None r some none quiet = let bad : Some r ≡ None = none refl in cc
none_made (Some (make s l tricks notices)) r some none quiet = let is = (some (make s l tricks notices) refl).0 in
    let bad : true ≡ false = sym is ∙ quiet in cc
none_made (Some w) r some none quiet = let bad : Some r ≡ None = some w refl in cc

-- a `make` that asks for a report has one
pub some_made : (s : Search) (l : Look) (tricks : Bool) (notices : Notices) → ReportsFor (make s l tricks notices) None → notices.report ≡ true → ⊥
some_made s l tricks notices h is = let bad : true ≡ false = sym is ∙ h in cc
