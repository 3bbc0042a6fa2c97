use Rattle.std.proofs.Common.{arith}
use Rattle.cards.proofs.candidates.Candidates.around.Goals as goal

pub of-requires : goal.of-requires
of-requires c = omega (arith, c.of-jump.ensures.few 64 (omega arith))

pub of-requires-2 : goal.of-requires-2
of-requires-2 c = omega (arith, c.of-jump.ensures.few 64 (omega arith), c.of.ensures.few 64 (omega arith))
