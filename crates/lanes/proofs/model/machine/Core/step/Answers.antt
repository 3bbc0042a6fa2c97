use Rattle.std.proofs.Common.{subst, sym}
use Rattle.lanes.specs.declared.model.event.Event.TheVariants.{Send, Take, Close, Stop}
use Rattle.lanes.specs.Sound.{IsSound}
use Rattle.lanes.proofs.Steps.{sound_after}
use Rattle.lanes.proofs.model.machine.Core.step.Goals as goal

pub returns-in-Send-clause-sound : goal.returns-in-Send-clause-sound
returns-in-Send-clause-sound c = subst IsSound (sym c.send.ensures.after)
    (sound_after c.args.self.now (Send c.in-Send.worker) c.send.ensures.room c.send.ensures.sound)

pub returns-in-Take-clause-sound : goal.returns-in-Take-clause-sound
returns-in-Take-clause-sound c = subst IsSound (sym c.take.ensures.after) (sound_after c.args.self.now Take c.take.ensures.room c.take.ensures.sound)

pub returns-in-Close-clause-sound : goal.returns-in-Close-clause-sound
returns-in-Close-clause-sound c = subst IsSound (sym c.close.ensures.after)
    (sound_after c.args.self.now (Close c.in-Close.worker) c.close.ensures.room c.close.ensures.sound)

pub returns-in-Stop-clause-sound : goal.returns-in-Stop-clause-sound
returns-in-Stop-clause-sound c = subst IsSound (sym c.stop.ensures.after) (sound_after c.args.self.now Stop c.stop.ensures.room c.stop.ensures.sound)
