-- What reading the words of a command line comes to.
use Rattle.std.specs.Prelude.{◌≡◌, List, Result, Ok, Err, IsSome, Some}
use Rattle.clap.specs.Kinds.{HasKind}
use Rattle.clap.specs.Words.{Text, kind_of}
use Rattle.clap.specs.declared.error.Error.{Error}
use Rattle.clap.specs.declared.error.kind.ErrorKind.TheVariants as kind
use Rattle.command_line.specs.CommandLine.{asked, kinds_for}
use Rattle.requests.specs.Requests.{wish_of}
use Rattle.requests.specs.declared.request.Request.{Request}

-- what was read of the words: what they ask for, or clap's error. Of words that ask for something
-- only that memory ran out is one
abbrev pub AreRead : List Text → Result Request Error → Type 0
AreRead words (Ok request) = asked words ≡ Some (wish_of request)
AreRead words (Err error) =
    (IsSome (asked words) → kind_of error ≡ kind.OutOfMemory) × HasKind (kinds_for words) error
