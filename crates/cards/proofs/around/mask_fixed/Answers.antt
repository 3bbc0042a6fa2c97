use Rattle.std.proofs.Common.{◌<◌, ◌∙◌, length, map, false, sym, arith}
use Rattle.std.proofs.lemmas.List.{get_or-map, length-map}
use Rattle.std.specs.Prelude.{None}
use Rattle.cards.specs.Fixed.{is_fixed_at}
use Rattle.cards.proofs.Fixing.{bit_taken, bit_passed}
use Rattle.cards.proofs.around.mask_fixed.Goals as goal
use Rattle.cards.proofs.around.mask_fixed.Goals.{then-is_at, else-is_at}

pub loop-card-preserved : goal.loop-card-preserved
loop-card-preserved c =
    let cards = map (is_fixed_at c.args.seat) c.args.seats.now in
    let inside : c.loop-card.card < length cards = simp length-map (omega arith) in
    let read = get_or-map (is_fixed_at c.args.seat) c.args.seats.now c.loop-card.card None false (omega arith) in
    elim c.if-is_at.branch [
      | then-is_at w ↦ bit_taken cards c.loop-card.card c.loop-card.mask c.if-is_at.mask inside (omega arith)
          c.loop-card.invariant (read ∙ sym c.is_at.ensures ∙ w.if-is_at.true) w.mask-is
      | else-is_at w ↦ bit_passed cards c.loop-card.card c.loop-card.mask c.if-is_at.mask inside c.loop-card.invariant
          (read ∙ sym c.is_at.ensures ∙ w.if-is_at.false) w.mask-is
    ]
