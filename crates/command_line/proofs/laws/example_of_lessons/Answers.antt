use Rattle.std.proofs.Common.{refl}
use Rattle.clap.proofs.OnLiterals.{clap_on_literals}
use Rattle.command_line.specs.CommandLine.{asked}
use Rattle.command_line.proofs.laws.example_of_lessons.Goals as goal

pub returns : goal.returns
unfolding asked clap_on_literals
returns c = refl
