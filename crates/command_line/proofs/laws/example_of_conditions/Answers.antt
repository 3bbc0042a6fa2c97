use Rattle.std.proofs.Common.{refl}
use Rattle.clap.proofs.OnLiterals.{clap_on_literals}
use Rattle.command_line.specs.CommandLine.{asked, kinds_for}
use Rattle.command_line.proofs.laws.example_of_conditions.Goals as goal

pub returns-clause-page : goal.returns-clause-page
unfolding asked kinds_for clap_on_literals
returns-clause-page c = refl

pub returns-clause-help : goal.returns-clause-help
unfolding asked
returns-clause-help c = refl
