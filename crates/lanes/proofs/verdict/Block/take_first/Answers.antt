use Rattle.std.proofs.Common.{◌<◌, ◌∙◌, length, refl, sym, ap, arith}
use Rattle.lanes.proofs.Blocks.{length_part, part_from}
use Rattle.lanes.proofs.verdict.Block.take_first.Goals as goal

pub returns : goal.returns
returns c =
    let b = c.self.inside in
    let (all, start, end, most) = c.self.invariant in
    let view = c.self.view_is in
    let some : 0 < length c.args.self.now = c.requires in
    let count = length_part b.start b.end b.slots (omega (arith, all, end)) in
    let lt : b.start < b.end = omega (arith, some, count, ap length view) in
    sym view ∙ part_from b.start b.end b.slots _ c.index-self-self.result lt (omega (arith, all, end)) refl
