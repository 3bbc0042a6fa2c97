use Rattle.std.proofs.Common.{ap, ◌∙◌}
use Rattle.cards.specs.Counts.{stops_in}
use Rattle.cards.specs.Hands.{shape_of, is_balanced, is_rearrangement}
use Rattle.conditions.proofs.meaning.+holds.Goals as goal

pub returns-in-Balanced : goal.returns-in-Balanced
returns-in-Balanced t c = rw c.in-Balanced.is (c.balanced.ensures.value ∙ ap (λ hand. is_balanced (shape_of hand)) c.hand.ensures.value)

pub returns-in-Pattern : goal.returns-in-Pattern
returns-in-Pattern t c =
    rw c.in-Pattern.is (c.is_rearrangement.ensures ∙ ap (λ lengths. is_rearrangement lengths c.in-Pattern.lengths) c.lengths_of-in-Pattern.ensures)

pub returns-in-Stops : goal.returns-in-Stops
returns-in-Stops t c = rw c.in-Stops.is (c.stops.ensures ∙ ap (λ hand. stops_in hand c.in-Stops.suit) c.hand-in-Stops.ensures.value)
