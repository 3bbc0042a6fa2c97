use Rattle.std.proofs.Common.{◌≡◌, ◌∙◌, sym, refl, true}
use Rattle.lanes.specs.declared.model.event.Event.TheVariants.{Close}
use Rattle.lanes.specs.Machine.{is_allowed}
use Rattle.lanes.specs.internal.Cores.{machine_of}
use Rattle.lanes.proofs.Steps.{may_close}
use Rattle.lanes.proofs.Fields.{close_fields, allows, keeps, tells}
use Rattle.lanes.proofs.model.machine.Core.close.Goals as goal

pub invariant_of-self : goal.invariant_of-self
invariant_of-self c =
    let f = c.self.inside in
    let w = c.args.worker in
    let here : is_allowed (machine_of f) (Close w) ≡ true =
    allows f c.args.self.now (Close w) c.self.view_is (sym c.may_close.ensures ∙ c.if-not-may_close.false) in
    keeps f _ (Close w) c.self.invariant here (close_fields f w (may_close (machine_of f) w here).worker) refl refl refl

pub returns-clause-after : goal.returns-clause-after
returns-clause-after c =
    let f = c.self.inside in
    let w = c.args.worker in
    let allowed : is_allowed c.args.self.now (Close w) ≡ true = sym c.may_close.ensures ∙ c.if-not-may_close.false in
    let here = allows f c.args.self.now (Close w) c.self.view_is allowed in
    tells f _ c.args.self.now (Close w) c.self.view_is allowed (close_fields f w (may_close (machine_of f) w here).worker)
