use Rattle.std.proofs.Common.{◌∙◌, ap}
use Rattle.cards.specs.Candidates.{state_before}
use Rattle.cards.specs.Fixed.{dealt_around, free_count, places_for}
use Rattle.cards.specs.internal.Around.{draws_around}
use Rattle.cards.proofs.Jumps.{past_draws}
use Rattle.cards.proofs.candidates.Candidates.next.Goals as goal

pub returns-clause-deal : goal.returns-clause-deal
returns-clause-deal c fixed seed k step at =
    c.draw-deal.ensures.value
    ∙ ap (λ x. dealt_around c.self.inside.around (places_for (free_count c.self.inside.around) x)) (ap (λ v. v.state) c.self.view_is ∙ at.before)
    ∙ ap (λ f. dealt_around f (places_for (free_count f) (state_before seed k))) (ap (λ v. v.fixed) c.self.view_is ∙ at.fixed_are)

pub returns-clause-moved : goal.returns-clause-moved
returns-clause-moved c fixed seed k step at =
    past_draws fixed seed k step c.args.self.now c.self.inside.start c.draw-deal.new.generator
    c.apply-self-inside.result (draws_around c.self.inside.around) c.self.inside.gap c.self.inside.stride 0
    c.self.inside.around at
    (ap (λ v. v.state) c.self.view_is) (ap (λ v. v.stride) c.self.view_is) (ap (λ v. v.fixed) c.self.view_is)
    c.self.invariant.1 c.draw-deal.ensures.stepped c.apply-self-inside.ensures
