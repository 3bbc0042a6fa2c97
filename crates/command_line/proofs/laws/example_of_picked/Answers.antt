use Rattle.std.proofs.Common.{refl}
use Rattle.clap.proofs.OnLiterals.{clap_on_literals}
use Rattle.command_line.specs.CommandLine.{asked, kinds_for}
use Rattle.command_line.proofs.laws.example_of_picked.Goals as goal

pub returns : goal.returns
unfolding asked kinds_for clap_on_literals
returns c = refl
