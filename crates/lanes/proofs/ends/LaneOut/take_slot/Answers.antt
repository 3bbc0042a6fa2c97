use Rattle.std.proofs.Common.{◌∙◌, ◌++◌, ◌∷◌, [], ap}
use Rattle.rtrb.specs.Ring.{received}
use Rattle.lanes.specs.Slots.{verdict_in, verdicts_in}
use Rattle.lanes.proofs.Blocks.{rest_is_last, taken_with_first, verdicts-more}
use Rattle.lanes.proofs.ends.LaneOut.take_slot.Goals as goal

pub invariant_of-self-2 : goal.invariant_of-self-2
invariant_of-self-2 c =
    rest_is_last (received c.self.inside.consumer) c.self.inside.block c.take_first.new.self c.take_first.result c.self.invariant c.take_first.ensures

pub returns-clause-taken : goal.returns-clause-taken
returns-clause-taken c =
    ap verdicts_in (taken_with_first (received c.self.inside.consumer) c.self.inside.block c.take_first.new.self
    c.take_first.result c.self.invariant c.take_first.ensures)
    ∙ verdicts-more _ c.take_first.result
    ∙ ap (λ o. o.taken ++ verdict_in c.take_first.result ∷ []) c.self.view_is
