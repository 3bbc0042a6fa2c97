use Rattle.std.proofs.Common.{◌≡◌, ◌∙◌, Some, ap, length, map, rules, sym, true}
use Rattle.cards.specs.internal.GivenMasks.{are_thirteen}
use Rattle.cards.proofs.GivenCards.{all_shown, given_length, masks_shown, told_all, told_thirteen}
use Rattle.cards.proofs.given.Given.deal.Goals as goal
use Rattle.cards.proofs.given.Given.deal.Goals.{then-self-ne-ALL-via-then-self-ne-ALL, then-self-ne-ALL-via-else-self-ne-ALL+then-not-are_thirteen}

pub returns-then-self-ne-ALL-clause-every : goal.returns-then-self-ne-ALL-clause-every
returns-then-self-ne-ALL-clause-every c d ok all =
    let same = c.self.view_is ∙ all in
    elim c.then-self-ne-ALL.branch [
      | then-self-ne-ALL-via-then-self-ne-ALL w ↦ absurd (w.if-self-ne-ALL.true
          (told_all c.self.inside.masks c.self.inside.held c.self.invariant d ok.count same))
      | then-self-ne-ALL-via-else-self-ne-ALL+then-not-are_thirteen w ↦ absurd
          (let test = told_thirteen c.self.inside.masks c.self.inside.held c.self.invariant d ok.count same ok in
          search rules)
    ]

pub of_three_masks-requires : goal.of_three_masks-requires
of_three_masks-requires c =
    let test : are_thirteen c.self.inside.masks ≡ true = search rules in
    masks_shown c.self.inside.masks c.self.inside.held c.self.invariant c.if-self-ne-ALL.false test

pub returns-clause-given : goal.returns-clause-given
returns-clause-given c =
    sym c.self.view_is ∙ all_shown c.self.inside.masks c.self.inside.held c.self.invariant c.if-self-ne-ALL.false
    ∙ ap (map (λ seat. Some seat)) (sym c.of_three_masks.ensures.value)

pub returns-then-self-ne-ALL-clause-cards : goal.returns-then-self-ne-ALL-clause-cards
returns-then-self-ne-ALL-clause-cards c = ap length (sym c.self.view_is) ∙ given_length c.self.inside.masks

pub returns-clause-cards : goal.returns-clause-cards
returns-clause-cards c = ap length (sym c.self.view_is) ∙ given_length c.self.inside.masks
