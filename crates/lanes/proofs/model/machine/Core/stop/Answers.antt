use Rattle.std.proofs.Common.{refl}
use Rattle.lanes.specs.declared.model.event.Event.TheVariants.{Stop}
use Rattle.lanes.proofs.Fields.{keeps}
use Rattle.lanes.proofs.model.machine.Core.stop.Goals as goal

pub invariant_of-self : goal.invariant_of-self
invariant_of-self c = keeps c.self.inside _ Stop c.self.invariant refl refl refl refl refl
