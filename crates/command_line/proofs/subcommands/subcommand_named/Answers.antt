use Rattle.std.proofs.Common.{◌∙◌, ap}
use Rattle.command_line.specs.Given.{meant_by}
use Rattle.command_line.proofs.subcommands.subcommand_named.Goals as goal

pub returns : goal.returns
returns c = c.named_in.ensures ∙ ap (λ table. meant_by table c.args.name.now) c.subcommands.ensures.named
