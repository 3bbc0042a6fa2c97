use Rattle.std.proofs.Common.{◌∙◌, ap, arith}
use Rattle.std.proofs.lemmas.Nat.{or_lt}
use Rattle.cards.specs.declared.seat.Seat.TheVariants.{North, East, South, West}
use Rattle.cards.specs.Packed.{undealt}
use Rattle.cards.proofs.PackedDeals.{fixed_mask-lt, shown_source, source_packed, words_of_source}
use Rattle.cards.proofs.packed.Packed.of_source.Goals as goal

pub join-requires-clause-cards : goal.join-requires-clause-cards
join-requires-clause-cards c =
    let seats = c.as_array-seats in
    or_lt 52 c.mask_fixed-north.result c.mask_fixed-west.result
    (rw c.mask_fixed-north.ensures (fixed_mask-lt seats.result.now North seats.ensures.fixed))
    (rw c.mask_fixed-west.ensures (fixed_mask-lt seats.result.now West seats.ensures.fixed))

pub join-requires-2-clause-cards : goal.join-requires-2-clause-cards
join-requires-2-clause-cards c =
    let seats = c.as_array-seats in
    or_lt 52 c.mask_fixed-east.result c.mask_fixed-west.result
    (rw c.mask_fixed-east.ensures (fixed_mask-lt seats.result.now East seats.ensures.fixed))
    (rw c.mask_fixed-west.ensures (fixed_mask-lt seats.result.now West seats.ensures.fixed))

pub join-requires-3-clause-cards : goal.join-requires-3-clause-cards
join-requires-3-clause-cards c =
    let seats = c.as_array-seats in
    rw c.mask_fixed-south.ensures (fixed_mask-lt seats.result.now South seats.ensures.fixed)

pub invariant_of-result : goal.invariant_of-result
invariant_of-result c =
    let seats = c.as_array-seats in
    let (first, second, third) =
    words_of_source seats.result.now c.args.seed c.from-seed.result _ _ _ _ _ _ _ c.from-seed.ensures
    c.mask_fixed-north.ensures c.mask_fixed-east.ensures
    c.mask_fixed-south.ensures c.mask_fixed-west.ensures c.join.ensures c.join-2.ensures c.join-3.ensures in
    source_packed c.args.seed seats.result.now _ _ _ seats.ensures.fixed (omega arith) first second third

pub returns : goal.returns
returns c =
    let seats = c.as_array-seats in
    let (first, second, third) =
    words_of_source seats.result.now c.args.seed c.from-seed.result _ _ _ _ _ _ _ c.from-seed.ensures
    c.mask_fixed-north.ensures c.mask_fixed-east.ensures
    c.mask_fixed-south.ensures c.mask_fixed-west.ensures c.join.ensures c.join-2.ensures c.join-3.ensures in
    shown_source c.args.seed seats.result.now _ _ _ seats.ensures.fixed first second third
    ∙ ap (λ fixed. undealt (record { seed = c.args.seed; fixed = fixed })) seats.ensures.seats
