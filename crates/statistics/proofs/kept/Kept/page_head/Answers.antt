use Rattle.std.proofs.Common.{ap, arith, length}
use Rattle.boards.proofs.Rooms.{wide_bytes}
use Rattle.statistics.proofs.kept.Kept.page_head.Goals as goal

pub put_page_head-requires-clause-title : goal.put_page_head-requires-clause-title
put_page_head-requires-clause-title c =
    omega (arith, wide_bytes c.as_bytes.result.now, ap length c.as_bytes.ensures.value, c.title-title.ensures.few)
