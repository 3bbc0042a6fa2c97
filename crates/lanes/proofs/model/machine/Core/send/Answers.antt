use Rattle.std.proofs.Common.{◌≡◌, ◌∙◌, sym, refl, true}
use Rattle.lanes.specs.declared.model.event.Event.TheVariants.{Send}
use Rattle.lanes.specs.Machine.{is_allowed}
use Rattle.lanes.specs.internal.Cores.{machine_of}
use Rattle.lanes.proofs.Steps.{may_send}
use Rattle.lanes.proofs.Fields.{send_fields, allows, keeps, tells}
use Rattle.lanes.proofs.model.machine.Core.send.Goals as goal

pub invariant_of-self : goal.invariant_of-self
invariant_of-self c =
    let f = c.self.inside in
    let w = c.args.worker in
    let here : is_allowed (machine_of f) (Send w) ≡ true =
    allows f c.args.self.now (Send w) c.self.view_is (sym c.may_send.ensures ∙ c.if-not-may_send.false) in
    keeps f _ (Send w) c.self.invariant here (send_fields f w (may_send (machine_of f) w here).worker) refl refl refl

pub returns-clause-after : goal.returns-clause-after
returns-clause-after c =
    let f = c.self.inside in
    let w = c.args.worker in
    let allowed : is_allowed c.args.self.now (Send w) ≡ true = sym c.may_send.ensures ∙ c.if-not-may_send.false in
    let here = allows f c.args.self.now (Send w) c.self.view_is allowed in
    tells f _ c.args.self.now (Send w) c.self.view_is allowed (send_fields f w (may_send (machine_of f) w here).worker)
