use Rattle.std.proofs.Common.{List, ap, arith, length, ℕ}
use Rattle.boards.proofs.Rooms.{wide_bytes}
use Rattle.statistics.proofs.one.One.heading.Goals as goal

pub put_escaped-requires : goal.put_escaped-requires
put_escaped-requires c =
    omega (arith, wide_bytes c.title.result.now, c.title.ensures.few, c.put.ensures.len, ap (λ (xs : List ℕ). length xs) c.new-text.ensures)

pub put-requires-2 : goal.put-requires-2
put-requires-2 c =
    omega (
      arith,
      wide_bytes c.title.result.now,
      c.title.ensures.few,
      c.put.ensures.len,
      c.put_escaped.ensures.most,
      ap (λ (xs : List ℕ). length xs) c.new-text.ensures,
    )
