use Rattle.input.proofs.Partitions.{whole_is}
use Rattle.input.proofs.records.deal_value.whole.Goals as goal

pub returns : goal.returns
returns c = whole_is c.args.given.now c.deal.result c.deal.ensures.cards c.deal.ensures.partition c.deal.ensures.given c.deal.ensures.every
