use Rattle.deals_cli.proofs.Answering.{reads_as_asked}
use Rattle.deals_cli.proofs.entry.answer.Goals as goal

pub returns-in-Ok-clause-unread : goal.returns-in-Ok-clause-unread
returns-in-Ok-clause-unread g c none = c.perform.ensures.unread (λ reads. none (reads_as_asked _ c.in-Ok.task c.in-Ok.ensures.ready reads))
