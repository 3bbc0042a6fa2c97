use Rattle.cards.proofs.OrderedLengths.{second_by_pairs}
use Rattle.cards.proofs.order.second.Goals as goal

pub returns-clause-value : goal.returns-clause-value
returns-clause-value c =
    rw (c.max-3.ensures, c.max-alike.ensures, c.min.ensures, c.min-2.ensures, c.min-3.ensures, c.max.ensures, c.max-2.ensures)
    (second_by_pairs c.args.spades c.args.hearts c.args.diamonds c.args.clubs)
