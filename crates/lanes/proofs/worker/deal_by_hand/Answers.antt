use Rattle.std.proofs.Common.{◌∙◌, ap, refl, sym}
use Rattle.cards.specs.Fixed.{candidate_around}
use Rattle.conditions.specs.Meaning.{holds}
use Rattle.lanes.proofs.Screens.{completes, none_accepted}
use Rattle.lanes.proofs.worker.deal_by_hand.Goals as goal

pub returns-then-gives_up_west-clause-next : goal.returns-then-gives_up_west-clause-next
returns-then-gives_up_west-clause-next c = record {
  moved = λ seed number step at.
      c.skip.ensures.moved c.args.job.now.fixed seed number step (c.deal_west-west.ensures.stays c.args.job.now.fixed seed number step at);
  deal = λ seed number step at. tt;
  accepted = λ seed number step at.
      let j = c.args.job.now in
      let west = completes j.fixed seed number c.deal_west-west.result c.requires.sound (c.deal_west-west.ensures.hand j.fixed seed number step at) in
      none_accepted (holds j.cond (candidate_around j.fixed seed number))
      (c.gives_up_west.ensures.rejected j.cond j.fixed (candidate_around j.fixed seed number) c.if-gives_up_west.true c.requires west);
}

pub returns-then-gives_up_south-clause-next : goal.returns-then-gives_up_south-clause-next
returns-then-gives_up_south-clause-next c = record {
  moved = λ seed number step at.
      let fixed = c.args.job.now.fixed in
      c.skip-then-gives_up_south.ensures.moved fixed seed number step
      (c.deal_south-south.ensures.stays fixed seed number step (c.deal_west-west.ensures.stays fixed seed number step at));
  deal = λ seed number step at. tt;
  accepted = λ seed number step at.
      let j = c.args.job.now in
      let west = completes j.fixed seed number c.deal_west-west.result c.requires.sound (c.deal_west-west.ensures.hand j.fixed seed number step at) in
      let south = c.deal_south-south.ensures.hand j.fixed seed number step (c.deal_west-west.ensures.stays j.fixed seed number step at) in
      none_accepted (holds j.cond (candidate_around j.fixed seed number))
      (c.gives_up_south.ensures.rejected j.cond j.fixed (candidate_around j.fixed seed number) c.if-gives_up_south.true
      (c.gives_up_west.ensures.same j.cond j.fixed c.requires) west (sym south));
}

pub returns-then-holds-clause-next : goal.returns-then-holds-clause-next
returns-then-holds-clause-next c = record {
  moved = λ seed number step at.
      let fixed = c.args.job.now.fixed in
      c.finish-deal.ensures.moved fixed seed number step
      (c.deal_south-south.ensures.stays fixed seed number step (c.deal_west-west.ensures.stays fixed seed number step at));
  deal = λ seed number step at.
      let fixed = c.args.job.now.fixed in
      c.finish-deal.ensures.deal fixed seed number step
      (c.deal_south-south.ensures.stays fixed seed number step (c.deal_west-west.ensures.stays fixed seed number step at));
  accepted = λ seed number step at.
      let j = c.args.job.now in
      let on = c.deal_south-south.ensures.stays j.fixed seed number step (c.deal_west-west.ensures.stays j.fixed seed number step at) in
      let deal = c.finish-deal.ensures.deal j.fixed seed number step on in
      (λ _. sym (ap (holds j.cond) deal) ∙ sym c.holds.ensures ∙ c.if-holds.true, λ _. refl);
}

pub returns-else-holds-clause-next : goal.returns-else-holds-clause-next
returns-else-holds-clause-next c = record {
  moved = λ seed number step at.
      let fixed = c.args.job.now.fixed in
      c.finish-deal.ensures.moved fixed seed number step
      (c.deal_south-south.ensures.stays fixed seed number step (c.deal_west-west.ensures.stays fixed seed number step at));
  deal = λ seed number step at. tt;
  accepted = λ seed number step at.
      let j = c.args.job.now in
      let on = c.deal_south-south.ensures.stays j.fixed seed number step (c.deal_west-west.ensures.stays j.fixed seed number step at) in
      let deal = c.finish-deal.ensures.deal j.fixed seed number step on in
      none_accepted (holds j.cond (candidate_around j.fixed seed number))
      (sym (ap (holds j.cond) deal) ∙ sym c.holds.ensures ∙ c.if-holds.false);
}
