use Rattle.std.proofs.Common.{◌∙◌, ap}
use Rattle.cards.specs.internal.PackedMasks.{joined}
use Rattle.cards.proofs.PackedDeals.{deal_packed, flag_number, shown_deal}
use Rattle.cards.proofs.packed.Packed.of_deal.Goals as goal

pub invariant_of-result : goal.invariant_of-result
invariant_of-result c =
    deal_packed c.args.deal.now c.args.flag c.mask.result _ _ _ c.mask.ensures.partition c.mask.ensures.value
    (c.join.ensures ∙ ap (joined c.mask.result) (flag_number c.args.flag c.from.result c.from.ensures))
    c.mask-2.ensures.value c.mask-3.ensures.value

pub returns : goal.returns
returns c =
    shown_deal c.args.deal.now c.args.flag c.mask.result _ _ _ c.mask.ensures.partition c.mask.ensures.value
    (c.join.ensures ∙ ap (joined c.mask.result) (flag_number c.args.flag c.from.result c.from.ensures))
    c.mask-2.ensures.value c.mask-3.ensures.value
