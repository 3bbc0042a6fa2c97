use Rattle.std.specs.Str.Parse.{ExplainsUnsignedError, HasUnsignedDigitsIfOk, ParsesUnsigned}
use Rattle.clap.specs.Words.{found_of}
use Rattle.command_line.proofs.Numbers.{read32}
use Rattle.command_line.proofs.given.u32_in.Goals as goal

pub returns : goal.returns
returns c =
    read32 (λ bs r. ParsesUnsigned 32 10 bs r × ExplainsUnsignedError 10 bs r × HasUnsignedDigitsIfOk bs r)
    (found_of c.args.matches.now) c.args.id.now c.get_one.result
    c.requires c.get_one.ensures.none c.get_one.ensures.value (λ u x g. g.0)
