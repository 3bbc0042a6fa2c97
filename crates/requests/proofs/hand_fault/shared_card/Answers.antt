use Rattle.std.proofs.Common.{◌∙◌, ◌&&◌, Bool, arith, below_more, sym, ℕ}
use Rattle.std.specs.Prelude.{is_some}
use Rattle.requests.specs.PredealtHands.{given_by, has_card, seat_given, shares}
use Rattle.requests.proofs.Cards.{no_card, some_card}
use Rattle.requests.proofs.hand_fault.shared_card.Goals as goal

pub loop-number-preserved : goal.loop-number-preserved
loop-number-preserved c =
    below_more _ _ c.loop-number.invariant
    (sym c.card_held-fault.ensures.found ∙ sym c.is_some.ensures ∙ c.if-is_some.false)

pub returns-then-is_some-clause-found : goal.returns-then-is_some-clause-found
unfolding shares
returns-then-is_some-clause-found c =
    let held = sym c.is_some.ensures ∙ c.if-is_some.true in
    let test : ℕ → Bool = λ k. has_card c.args.text.now k && is_some (seat_given (given_by c.args.earlier.now) k) in
    held ∙ sym (some_card test c.loop-number.number (omega arith) (sym c.card_held-fault.ensures.found ∙ held))

pub returns-clause-found : goal.returns-clause-found
unfolding shares
returns-clause-found c =
    sym (no_card (λ k. has_card c.args.text.now k && is_some (seat_given (given_by c.args.earlier.now) k))
    (λ k h. c.loop-number.invariant k (omega arith)))
