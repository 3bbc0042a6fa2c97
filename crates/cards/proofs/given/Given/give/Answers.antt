use Rattle.std.proofs.Common.{◌≡◌, ◌≢◌, ◌∙◌, ◌/◌, ◌^◌, ℕ, ap, arith, bit_and, get_or, set, subst, sym}
use Rattle.std.specs.Int.{bit_at}
use Rattle.std.specs.Prelude.{IsSome, None, Some}
use Rattle.std.proofs.lemmas.Nat.Bits.{bit_at-lt, shr_and_one}
use Rattle.cards.proofs.GivenCards.{given_more, one_given, was_free, was_held}
use Rattle.cards.proofs.given.Given.give.Goals as goal

pub returns-then-self-card-eq1-clause-held : goal.returns-then-self-card-eq1-clause-held
returns-then-self-card-eq1-clause-held c e =
    let one = sym (shr_and_one c.self.inside.held c.args.card) ∙ c.if-self-card-eq1.true in
    subst (λ l. IsSome (get_or l c.args.card None)) c.self.view_is
    (was_held c.self.inside.masks c.self.inside.held c.self.invariant c.args.card c.requires one)

free_at : (m k : ℕ) → (bit_and (m / 2 ^ k) 1 ≡ 1 → ⊥) → bit_at m k ≡ 0
free_at m k other = let not_one : bit_at m k ≢ 1 = λ e. other (shr_and_one m k ∙ e) in omega (arith, bit_at-lt m k, not_one)

pub invariant_of-self : goal.invariant_of-self
invariant_of-self c =
    let free = free_at c.self.inside.held c.args.card c.if-self-card-eq1.false in
    rw c.index_of.ensures (given_more c.self.inside.masks c.self.inside.held c.self.invariant c.args.card c.requires c.args.seat free)

pub returns-clause-free : goal.returns-clause-free
returns-clause-free c e =
    let free = free_at c.self.inside.held c.args.card c.if-self-card-eq1.false in
    ap (λ l. get_or l c.args.card None) (sym c.self.view_is)
    ∙ was_free c.self.inside.masks c.self.inside.held c.self.invariant c.args.card c.requires c.args.seat free

pub returns-clause-given : goal.returns-clause-given
returns-clause-given c e =
    let free = free_at c.self.inside.held c.args.card c.if-self-card-eq1.false in
    rw c.index_of.ensures
    (one_given c.self.inside.masks c.self.inside.held c.self.invariant c.args.card c.requires c.args.seat free
    ∙ ap (λ l. set l c.args.card (Some c.args.seat)) c.self.view_is)
