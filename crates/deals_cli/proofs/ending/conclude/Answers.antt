use Rattle.deals_cli.proofs.Reporting.{heard}
use Rattle.deals_cli.proofs.ending.conclude.Goals as goal

pub returns-in-Ok-clause-says : goal.returns-in-Ok-clause-says
returns-in-Ok-clause-says g c = rw c.in-Ok.is c.say_report.ensures.says

pub returns-in-Err-clause-says : goal.returns-in-Err-clause-says
returns-in-Err-clause-says g c = rw c.in-Err.is (λ same. heard c.say.result _ _ _ c.say.ensures.faults same c.say.ensures.text)
