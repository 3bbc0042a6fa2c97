use Rattle.std.proofs.Common.{◌≡◌, ◌∙◌, ◌<◌, ap, arith, sym, true}
use Rattle.std.specs.Prelude.{is_some, nat_le, not}
use Rattle.std.proofs.lemmas.Bool.{le-leb, lt-leb}
use Rattle.requests.specs.PredealtHands.{times_in}
use Rattle.requests.proofs.Cards.{all_cards, not_all_cards}
use Rattle.requests.proofs.hand_fault.card_twice.Goals as goal

pub returns-then-times_in-gt1-clause-found : goal.returns-then-times_in-gt1-clause-found
returns-then-times_in-gt1-clause-found c =
    let many : 1 < times_in c.args.text.now c.loop-number.number =
    omega (arith, ap (times_in c.args.text.now) c.from.ensures, c.times_in.ensures, c.if-times_in-gt1.true) in
    let made : is_some c.new.result ≡ true = c.new.ensures.in_pack.1 (omega arith) in
    made
    ∙ sym (ap not (not_all_cards (λ k. nat_le (times_in c.args.text.now k) 1) c.loop-number.number (omega arith) (lt-leb _ _ many)))

pub returns-clause-found : goal.returns-clause-found
returns-clause-found c =
    sym
    (ap not
    (all_cards (λ k. nat_le (times_in c.args.text.now k) 1) (λ k h. le-leb _ _ (c.loop-number.invariant k (omega arith)))))
