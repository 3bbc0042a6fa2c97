-- The verdicts of a job, and those that a worker of a plan owes.
use Rattle.std.specs.Prelude.{ℕ, List}
use Rattle.cards.specs.Candidates.{candidate}
use Rattle.cards.specs.Fixed.{candidate_around}
use Rattle.lanes.specs.declared.verdict.Verdict.{Verdict}
use Rattle.lanes.specs.declared.job.Job.{Job}
use Rattle.lanes.specs.declared.job.JobAround.{JobAround}
use Rattle.lanes.specs.Verdicts.{verdicts}
use Rattle.conditions.specs.Form.{Form}
use Rattle.boards.specs.Plans.{Planned, candidate_of}

abbrev pub verdicts_of : Job → List Verdict
verdicts_of job =
    verdicts (candidate job.seed) job.share.first job.share.count job.cond job.share.workers
    job.share.worker

-- those on deals around fixed cards
abbrev pub verdicts_around : JobAround → List Verdict
verdicts_around job =
    verdicts (candidate_around job.fixed job.seed) job.share.first job.share.count job.cond
    job.share.workers job.share.worker

-- all verdicts of worker w of a plan
abbrev pub verdicts_for : Planned → Form → ℕ → List Verdict
verdicts_for plan form w = verdicts (candidate_of plan) plan.first plan.count form plan.workers w
