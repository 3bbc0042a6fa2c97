-- How a run ends: one that took and wrote all that its plan asks for, and one that was interrupted.
use Rattle.std.specs.Prelude.{ℕ, ◌≡◌, ◌≤◌, List, Option, Result, MatchResult}
use Rattle.boards.specs.Layouts.{Layout}
use Rattle.conditions.specs.Form.{Form}
use Rattle.lanes.specs.Views.{OutView}
use Rattle.boards.specs.Plans.{Planned}
use Rattle.boards.specs.Text.{end_of}
use Rattle.dealrun.specs.Interrupted.{InterruptedIn, StandsCompleteIn, footer_taken}
use Rattle.dealrun.specs.Headline.{TakesWhatIsOwed, WritesTextIn}
use Rattle.dealrun.specs.declared.runs.Counted.{Counted}
use Rattle.dealrun.specs.declared.runs.RunFault.{RunFault}
use Rattle.dealrun.specs.declared.writer.Writer.{Writer}
use Rattle.boards.specs.declared.cause.Cause.TheVariants.{Output}

-- the whole text was written; this many candidates are needed
pub record Closes (layout : Layout) (plan : Planned) (form : Form) (lanes : List OutView)
    (boards candidates : ℕ) (old new : Option (List ℕ)) : Type 0 where
  pub lanes_are : TakesWhatIsOwed plan form lanes boards
  pub text_is : WritesTextIn layout plan form boards old new
  pub stands : StandsCompleteIn layout (footer_taken layout plan lanes) plan form lanes boards
      old new
  pub candidates_are : candidates ≡ end_of plan form
  pub few : (boards ≤ candidates) × (candidates ≤ plan.count)

-- the rest was written, or the sink failed
abbrev pub Finishes : {T E : Type 0} → Layout → Planned → Form → Writer → Option (List ℕ)
    → Result T E → Option (List ℕ) → Type 0
Finishes layout plan form w old result new = MatchResult result
    (λ _. Closes layout plan form w.lanes.items w.progress.boards w.progress.taken old new)
    (λ _. InterruptedIn layout plan form Output w.lanes.items w.progress.boards old new)

-- a run that ended, with its sink's bytes before and after
abbrev pub EndsRun : Layout → Planned → Form → Result Counted RunFault
    → Option (List ℕ) → Option (List ℕ) → Type 0
EndsRun layout plan form r old new = MatchResult r
    (λ c. Closes layout plan form c.report.lanes.items c.report.boards c.candidates old new)
    (λ e. InterruptedIn layout plan form e.cause e.lanes.items e.boards old new)
