use Rattle.std.proofs.Common.{refl}
use Rattle.boards.specs.Text.{needed_by}
use Rattle.dealrun.proofs.laws.other_settings_accept_the_same.Goals as goal

pub returns-clause-needed : goal.returns-clause-needed
unfolding needed_by
returns-clause-needed c plan form other = refl
