use Rattle.std.proofs.Common.{◌≡◌, ◌∙◌, ap, subst, sym}
use Rattle.std.specs.Prelude.{IfSome, Some}
use Rattle.requests.specs.HandFaults.{IsFaultOf}
use Rattle.requests.specs.PredealtHands.{GivenHands, before, bytes_of, given_at, given_by}
use Rattle.requests.proofs.Faults.{either_fault, fault_of_given}
use Rattle.requests.proofs.hands.PredealtHands.fault_at.Goals as goal

pub returns-clause-named : goal.returns-clause-named
returns-clause-named c =
    let hands : GivenHands = given_by c.args.self.now in
    let earlier : GivenHands = before c.args.seat hands in
    let given : given_at hands c.args.seat ≡ Some c.as_bytes-text.result.now =
    sym c.given_at.ensures ∙ ap bytes_of c.in_ok-given_at.was ∙ ap Some (sym c.as_bytes-text.ensures.value) in
    let Held : GivenHands → Type 0 = λ e. IfSome c.shared_card.result (IsFaultOf e c.as_bytes-text.result.now) in
    fault_of_given earlier (given_at hands c.args.seat) c.as_bytes-text.result.now c.or.result given
    (rw c.or.ensures
    (either_fault earlier c.as_bytes-text.result.now c.fault_of.result c.shared_card.result
    (c.fault_of.ensures.named earlier) (subst Held c.before-2.ensures c.shared_card.ensures.held)))
