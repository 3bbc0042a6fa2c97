use Rattle.std.proofs.Common.{◌<◌, ◌∙◌, length, sym, arith}
use Rattle.std.proofs.lemmas.List.Edits.{swap_is, swapped_from_swap}
use Rattle.cards.proofs.FreeCards.{cards_swapped, dealing_around_on}
use Rattle.cards.proofs.around.exchange.Goals as goal

pub returns-clause-cards : goal.returns-clause-cards
returns-clause-cards c =
    let inside : c.args.position < length c.args.cards.now = omega arith in
    let low : c.from-place.result < length c.args.cards.now = omega arith in
    cards_swapped c.args.cards.now _ c.args.position c.from-place.result (omega arith) c.requires.inside (omega arith)
    (swap_is c.args.cards.now c.args.position c.from-place.result 0 inside low) c.requires.cards

pub returns-clause-dealing : goal.returns-clause-dealing
returns-clause-dealing c fixed free x old below drawn before =
    let inside : c.args.position < length c.args.cards.now = omega arith in
    let low : c.from-place.result < length c.args.cards.now = omega arith in
    dealing_around_on fixed free x old c.args.draw c.args.cards.now _ c.from-place.result c.args.position below (omega arith)
    drawn (c.from-place.ensures ∙ c.place_for.ensures.value) (swap_is c.args.cards.now c.args.position c.from-place.result 0 inside low) before

pub returns-clause-card : goal.returns-clause-card
returns-clause-card c =
    let inside : c.args.position < length c.args.cards.now = omega arith in
    let low : c.from-place.result < length c.args.cards.now = omega arith in
    sym (swapped_from_swap c.args.cards.now _ c.args.position c.from-place.result 0 inside low
    (swap_is c.args.cards.now c.args.position c.from-place.result 0 inside low)).0
