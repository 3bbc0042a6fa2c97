use Rattle.std.proofs.Common.{map, string_bytes}
use Rattle.deals_cli.proofs.Answering.{mistaken}
use Rattle.deals_cli.proofs.task.prepare.Goals as goal

pub returns-in-Err-text_of-clause-refused : goal.returns-in-Err-text_of-clause-refused
returns-in-Err-text_of-clause-refused c =
    mistaken (map string_bytes c.args.words.now) c.in-Err.error c.in-Err-text_of.failure
    (rw c.in-Err.is at c.requires) c.in-Err-text_of.ensures.refused
