-- The answer of the deal is counted.
use Rattle.statistics.proofs.Counting.{one_counted}
use Rattle.statistics.proofs.one.One.count.Goals as goal

pub returns-clause-counted : goal.returns-clause-counted
returns-clause-counted c deals h =
    one_counted c.args.self.now c.add.new.self c.args.deal.now deals c.answer-answer.result c.add.ensures.one
    c.answer-answer.ensures.value c.answer-answer.ensures.within h
