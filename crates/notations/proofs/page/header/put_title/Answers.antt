use Rattle.std.proofs.Common.{ap, arith}
use Rattle.boards.specs.Room.{room}
use Rattle.notations.proofs.page.header.put_title.Goals as goal

pub returns-else-len-eq0-clause-wide : goal.returns-else-len-eq0-clause-wide
returns-else-len-eq0-clause-wide c =
    omega (arith, c.put_caption.ensures.most.wide, c.put_caption-2.ensures.most.wide, c.put_date.ensures.most.wide, ap (room 5) c.requires)

pub returns-else-len-eq0-clause-narrow : goal.returns-else-len-eq0-clause-narrow
returns-else-len-eq0-clause-narrow c =
    omega (arith, c.put_caption.ensures.most.narrow, c.put_caption-2.ensures.most.narrow, c.put_date.ensures.most.narrow, ap (room 4) c.requires)
