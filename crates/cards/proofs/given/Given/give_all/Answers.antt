use Rattle.std.proofs.Common.{◌∙◌, ap, length, subst, sym}
use Rattle.cards.specs.Given.{AreFree, with_cards}
use Rattle.cards.proofs.GivenCards.{all_given, given_all, given_length, not_free, were_free}
use Rattle.cards.proofs.given.Given.give_all.Goals as goal

pub invariant_of-self : goal.invariant_of-self
invariant_of-self c = rw c.index_of.ensures (given_all c.self.inside.masks c.self.inside.held c.self.invariant
    c.args.cards c.requires c.args.seat c.if-self-cards-ne0.false)

pub returns-then-self-cards-ne0-clause-cards : goal.returns-then-self-cards-ne0-clause-cards
returns-then-self-cards-ne0-clause-cards c = ap length (sym c.self.view_is) ∙ given_length c.self.inside.masks

pub returns-then-self-cards-ne0-clause-held : goal.returns-then-self-cards-ne0-clause-held
returns-then-self-cards-ne0-clause-held c free =
    absurd (not_free c.self.inside.masks c.self.inside.held c.self.invariant c.args.cards c.requires
    c.if-self-cards-ne0.true (subst (AreFree c.args.cards) (sym c.self.view_is) free))

pub returns-clause-cards : goal.returns-clause-cards
returns-clause-cards c = ap length (sym c.self.view_is) ∙ given_length c.self.inside.masks

pub returns-clause-free : goal.returns-clause-free
returns-clause-free c e =
    subst (AreFree c.args.cards) c.self.view_is
    (were_free c.self.inside.masks c.self.inside.held c.self.invariant c.args.cards c.requires c.args.seat c.if-self-cards-ne0.false)

pub returns-clause-given : goal.returns-clause-given
returns-clause-given c e =
    rw c.index_of.ensures
    (all_given c.self.inside.masks c.self.inside.held c.self.invariant c.args.cards c.requires c.args.seat c.if-self-cards-ne0.false
    ∙ ap (with_cards c.args.cards c.args.seat) c.self.view_is)
