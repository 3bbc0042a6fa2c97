use Rattle.std.proofs.Common.{sym, arith, subst}
use Rattle.lanes.specs.Machine.{new_machine}
use Rattle.lanes.specs.Sound.{IsSound}
use Rattle.lanes.proofs.Steps.{sound, kept_new}
use Rattle.lanes.proofs.Fields.{new_fields}
use Rattle.lanes.proofs.model.machine.Core.new.Goals as goal

pub invariant_of-result : goal.invariant_of-result
invariant_of-result c =
    let a = c.args in record {
      few = omega arith;
      lanes = omega arith;
      room = omega arith;
      sound = subst IsSound (sym (new_fields a.count a.workers a.capacity (omega arith)))
          (sound (new_machine a.count a.workers a.capacity) (kept_new a.count a.workers a.capacity (omega arith))
          (omega arith));
    }

pub returns-clause-start : goal.returns-clause-start
returns-clause-start c = new_fields c.args.count c.args.workers c.args.capacity (omega arith)
