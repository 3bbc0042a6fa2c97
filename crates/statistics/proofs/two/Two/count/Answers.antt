-- The answers of the deal are counted.
use Rattle.std.proofs.Common.{rules}
use Rattle.statistics.proofs.Counting.{two_counted}
use Rattle.statistics.proofs.two.Two.count.Goals as goal

pub returns-clause-counted : goal.returns-clause-counted
returns-clause-counted c deals h =
    two_counted c.args.self.now c.add.new.self c.args.deal.now deals c.answer-row.result c.column-column.result c.add.ensures
    (search rules) c.column-column.ensures.value (search rules) c.column-column.ensures.within (search rules) (search rules) h
