use Rattle.std.proofs.Common.{◌∙◌, sym, arith}
use Rattle.cards.proofs.DealMasks.{mask_held, mask_other}
use Rattle.cards.proofs.masks.mask_of.Goals as goal
use Rattle.cards.proofs.masks.mask_of.Goals.{then-is_same, else-is_same}

pub loop-card-preserved : goal.loop-card-preserved
loop-card-preserved c =
    elim c.if-is_same.branch [
      | then-is_same w ↦ mask_held c.args.seats.now c.args.seat c.loop-card.card c.loop-card.mask c.if-is_same.mask
          (omega arith) (omega arith) c.loop-card.invariant (sym c.is_same.ensures ∙ w.if-is_same.true) w.mask-is
      | else-is_same w ↦ mask_other c.args.seats.now c.args.seat c.loop-card.card c.loop-card.mask c.if-is_same.mask
          (omega arith) c.loop-card.invariant (sym c.is_same.ensures ∙ w.if-is_same.false) w.mask-is
    ]
