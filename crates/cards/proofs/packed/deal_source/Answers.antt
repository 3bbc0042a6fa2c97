use Rattle.std.specs.Prelude.{refl}
use Rattle.std.proofs.Common.{◌∙◌, arith}
use Rattle.cards.proofs.PackedDeals.{deal_of_undealt, number_of_undealt}
use Rattle.cards.proofs.packed.deal_source.Goals as goal

pub around-requires-clause-first : goal.around-requires-clause-first
around-requires-clause-first c =
    let a = c.args in
    omega (arith, number_of_undealt a.first a.second a.third a.number _ (omega arith) refl c.requires.number)

pub returns-clause-value : goal.returns-clause-value
returns-clause-value c =
    let a = c.args in
    c.next.ensures.deal _ _ _ _ c.around.ensures
    ∙ deal_of_undealt a.first a.second a.third a.number _ c.of_seats.result _ (omega arith) refl
    (omega (arith, c.requires.packed.seed (omega arith))) (c.of_seats.ensures ∙ c.seats_told-seats.ensures)
