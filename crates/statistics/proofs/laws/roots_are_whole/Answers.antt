use Rattle.statistics.proofs.Roots.{root_of}
use Rattle.statistics.proofs.laws.roots_are_whole.Goals as goal

pub returns-clause-below : goal.returns-clause-below
returns-clause-below c n = (root_of n).below

pub returns-clause-above : goal.returns-clause-above
returns-clause-above c n = (root_of n).above
