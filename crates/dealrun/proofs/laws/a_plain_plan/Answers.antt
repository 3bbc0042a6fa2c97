use Rattle.std.proofs.Common.{◌+◌}
use Rattle.dealrun.proofs.Plains.{accepts, by_law_is, needs, owes, same_deal, writes}
use Rattle.dealrun.proofs.laws.a_plain_plan.Goals as goal

pub returns-clause-deals : goal.returns-clause-deals
returns-clause-deals c plan k is = same_deal plan is k

pub returns-clause-boards : goal.returns-clause-boards
returns-clause-boards c plan n k deal is = by_law_is plan is (plan.first_board + n) k deal

pub returns-clause-accepted : goal.returns-clause-accepted
returns-clause-accepted c = accepts

pub returns-clause-needed : goal.returns-clause-needed
returns-clause-needed c = needs

pub returns-clause-text : goal.returns-clause-text
returns-clause-text c = writes

pub returns-clause-verdicts : goal.returns-clause-verdicts
returns-clause-verdicts c = owes
