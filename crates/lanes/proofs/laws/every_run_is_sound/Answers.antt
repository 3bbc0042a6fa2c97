use Rattle.lanes.specs.Machine.{new_machine}
use Rattle.lanes.proofs.Steps.{kept_new}
use Rattle.lanes.proofs.Runs.{sound_all}
use Rattle.lanes.proofs.laws.every_run_is_sound.Goals as goal

pub returns : goal.returns
returns c count workers capacity events some room =
    sound_all events (new_machine count workers capacity) (kept_new count workers capacity some) room
