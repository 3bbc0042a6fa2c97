use Rattle.std.proofs.Common.{◌∙◌, ap, refl, sym, true}
use Rattle.cards.specs.Fixed.{candidate_around}
use Rattle.conditions.specs.Meaning.{holds}
use Rattle.lanes.proofs.Screens.{not_accepted}
use Rattle.lanes.proofs.VerdictLists.{rejected_slot, verdict_made}
use Rattle.lanes.proofs.worker.judge_next.Goals as goal

pub returns-in-Some-clause-at : goal.returns-in-Some-clause-at
returns-in-Some-clause-at c =
    c.deal_next.ensures.next.moved c.args.job.now.seed c.args.number c.args.job.now.share.workers c.requires.at

pub returns-in-Some-clause-slot : goal.returns-in-Some-clause-slot
returns-in-Some-clause-slot c =
    let j = c.args.job.now in
    let deal = c.in-Some.ensures.next.deal j.seed c.args.number j.share.workers c.requires.at in
    let accepted = (c.in-Some.ensures.next.accepted j.seed c.args.number j.share.workers c.requires.at).0 refl in
    c.of.ensures
    ∙ verdict_made (candidate_around j.fixed j.seed) j.cond c.args.number c.args.number true c.in-Some.deal refl deal
    (sym (ap (holds j.cond) deal ∙ accepted))

pub returns-in-None-clause-at : goal.returns-in-None-clause-at
returns-in-None-clause-at c =
    c.deal_next.ensures.next.moved c.args.job.now.seed c.args.number c.args.job.now.share.workers c.requires.at

pub returns-in-None-clause-slot : goal.returns-in-None-clause-slot
returns-in-None-clause-slot c =
    let j = c.args.job.now in
    let accepted = c.in-None.ensures.next.accepted j.seed c.args.number j.share.workers c.requires.at in
    rejected_slot j.seed j.fixed j.cond c.args.number c.args.source.now c.rejected.result c.requires.source c.rejected.ensures
    (not_accepted (holds j.cond (candidate_around j.fixed j.seed c.args.number)) accepted.1)
