-- What an error of clap comes to.
use Rattle.std.specs.Prelude.{◌≡◌, ◌≢◌, false}
use Rattle.clap.specs.declared.error.kind.ErrorKind.{ErrorKind}
use Rattle.clap.specs.declared.error.kind.ErrorKind.TheVariants.{OutOfMemory}
use Rattle.boards.specs.declared.cause.Cause.TheVariants.{Memory}
use Rattle.deals_cli.specs.Program.{is_shown}
use Rattle.jobs.specs.declared.failure.Failure.{Failure}
use Rattle.jobs.specs.declared.failure.Failure.TheVariants.{CommandLine, Interrupted}

-- memory ran out, or the words are a mistake
abbrev pub RefusesError : ErrorKind → Failure → Type 0
RefusesError k (CommandLine text) = (is_shown k ≡ false) × (k ≢ OutOfMemory)
RefusesError k (Interrupted Memory) = Unit {0}
RefusesError k failure = ⊥
