use Rattle.std.proofs.Common.{◌∙◌}
use Rattle.command_line.proofs.Numerals.{number_read}
use Rattle.command_line.proofs.options.search.number32.Goals as goal

pub returns : goal.returns
returns c = c.ok.ensures.value ∙ number_read c.args.text.now c.parse.result c.parse.ensures.value.0
