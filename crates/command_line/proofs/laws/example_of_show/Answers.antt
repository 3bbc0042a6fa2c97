use Rattle.std.proofs.Common.{refl}
use Rattle.clap.proofs.OnLiterals.{clap_on_literals}
use Rattle.command_line.specs.CommandLine.{asked, kinds_for}
use Rattle.command_line.proofs.laws.example_of_show.Goals as goal

pub returns-clause-asked : goal.returns-clause-asked
unfolding asked kinds_for clap_on_literals
returns-clause-asked c = refl

pub returns-clause-seed : goal.returns-clause-seed
unfolding kinds_for clap_on_literals
returns-clause-seed c = refl

pub returns-clause-refused : goal.returns-clause-refused
unfolding kinds_for clap_on_literals
returns-clause-refused c = refl
