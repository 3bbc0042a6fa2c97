use Rattle.deals_cli.proofs.Reporting.{heard}
use Rattle.deals_cli.proofs.ending.say_report.Goals as goal

pub returns-in-Some-clause-says : goal.returns-in-Some-clause-says
returns-in-Some-clause-says g c = rw c.in-Some.is (λ same. heard c.say.result _ _ _ c.say.ensures.faults same c.say.ensures.text)
