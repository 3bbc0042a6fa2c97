use Rattle.std.proofs.Common.{◌≡◌, ◌<◌, ◌∙◌, sym, ap, refl, arith, true}
use Rattle.lanes.specs.declared.model.event.Event.TheVariants.{Take}
use Rattle.lanes.specs.Machine.{Machine, is_allowed, next_lane}
use Rattle.lanes.specs.internal.Cores.{machine_of}
use Rattle.lanes.proofs.Fields.{take_fields, allows, keeps, tells, turn_below}
use Rattle.lanes.proofs.model.machine.Core.take.Goals as goal

pub overflow_add-self-2 : goal.overflow_add-self-2
overflow_add-self-2 c =
    let f = c.self.inside in
    let here = allows f c.args.self.now Take c.self.view_is (sym c.may_take.ensures ∙ c.if-not-may_take.false) in
    let below : f.turn < f.count = turn_below (machine_of f) c.self.invariant.sound here in
    omega (arith, below, c.self.invariant.few)

pub invariant_of-self : goal.invariant_of-self
invariant_of-self c =
    let f = c.self.inside in
    let v = c.next_lane-lane.result in
    let here = allows f c.args.self.now Take c.self.view_is (sym c.may_take.ensures ∙ c.if-not-may_take.false) in
    let lane : v ≡ next_lane (machine_of f) = c.next_lane-lane.ensures.value ∙ ap next_lane (sym c.self.view_is) in
    let W : f.workers ≡ c.args.self.now.workers = ap (λ (m : Machine). m.workers) c.self.view_is in
    keeps f _ Take c.self.invariant here (take_fields f v (omega (arith, W, c.next_lane-lane.ensures.below)) lane) refl refl refl

pub returns-clause-after : goal.returns-clause-after
returns-clause-after c =
    let f = c.self.inside in
    let v = c.next_lane-lane.result in
    let allowed : is_allowed c.args.self.now Take ≡ true = sym c.may_take.ensures ∙ c.if-not-may_take.false in
    let lane : v ≡ next_lane (machine_of f) = c.next_lane-lane.ensures.value ∙ ap next_lane (sym c.self.view_is) in
    let W : f.workers ≡ c.args.self.now.workers = ap (λ (m : Machine). m.workers) c.self.view_is in
    tells f _ c.args.self.now Take c.self.view_is allowed (take_fields f v (omega (arith, W, c.next_lane-lane.ensures.below)) lane)
