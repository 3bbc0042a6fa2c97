use Rattle.std.proofs.Common.{◌∙◌, ap, subst}
use Rattle.cards.specs.Candidates.{candidate}
use Rattle.cards.specs.Fixed.{candidate_around, none_fixed}
use Rattle.cards.proofs.AroundLaws.{around_nothing}
use Rattle.lanes.specs.Jobs.{verdicts_around}
use Rattle.lanes.specs.Verdicts.{verdicts}
use Rattle.lanes.specs.Work.{Ends}
use Rattle.lanes.proofs.VerdictLists.{same_verdicts}
use Rattle.lanes.proofs.worker.work.Goals as goal

pub returns : goal.returns
returns g c =
    let j = c.args.job in
    let s = j.share in
    subst (λ vs. Ends vs c.args.lane.ring c.work_around.result)
    (ap verdicts_around c.around.ensures
    ∙ ap (λ fixed. verdicts (candidate_around fixed j.seed) s.first s.count j.cond s.workers s.worker) c.none.ensures
    ∙ same_verdicts (candidate_around none_fixed j.seed) (candidate j.seed) s.first s.count j.cond s.workers s.worker (around_nothing j.seed))
    c.work_around.ensures
