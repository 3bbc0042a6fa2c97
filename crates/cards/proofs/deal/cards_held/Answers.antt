use Rattle.std.proofs.Common.{◌∙◌, ◌==◌, ap}
use Rattle.std.specs.Int.RustNames.{count_ones}
use Rattle.std.proofs.lemmas.Simd.{ones-mask_l}
use Rattle.cards.specs.Pack.{seat_number}
use Rattle.cards.proofs.deal.cards_held.Goals as goal

pub returns : goal.returns
returns c =
    let seat = c.args.seat in
    ap count_ones c.mask_of.ensures ∙ ones-mask_l (λ holder. seat_number holder == seat_number seat) c.args.seats.now
