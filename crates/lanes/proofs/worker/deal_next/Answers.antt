use Rattle.std.proofs.Common.{◌∙◌, ap, refl, sym}
use Rattle.cards.specs.Fixed.{candidate_around}
use Rattle.conditions.specs.Meaning.{holds}
use Rattle.lanes.proofs.Screens.{none_accepted}
use Rattle.lanes.proofs.worker.deal_next.Goals as goal

pub returns-then-holds-clause-next : goal.returns-then-holds-clause-next
returns-then-holds-clause-next c = record {
  moved = λ seed number step at. c.next-deal.ensures.moved c.args.job.now.fixed seed number step at;
  deal = λ seed number step at. c.next-deal.ensures.deal c.args.job.now.fixed seed number step at;
  accepted = λ seed number step at.
      let j = c.args.job.now in
      let deal = c.next-deal.ensures.deal j.fixed seed number step at in
      (λ _. sym (ap (holds j.cond) deal) ∙ sym c.holds.ensures ∙ c.if-holds.true, λ _. refl);
}

pub returns-else-holds-clause-next : goal.returns-else-holds-clause-next
returns-else-holds-clause-next c = record {
  moved = λ seed number step at. c.next-deal.ensures.moved c.args.job.now.fixed seed number step at;
  deal = λ seed number step at. tt;
  accepted = λ seed number step at.
      let j = c.args.job.now in
      let deal = c.next-deal.ensures.deal j.fixed seed number step at in
      none_accepted (holds j.cond (candidate_around j.fixed seed number))
      (sym (ap (holds j.cond) deal) ∙ sym c.holds.ensures ∙ c.if-holds.false);
}
