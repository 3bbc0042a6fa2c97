use Rattle.lanes.proofs.Steps.{no_change}
use Rattle.lanes.proofs.laws.the_others_change_nothing.Goals as goal

pub returns : goal.returns
returns c m e none = no_change m e none
