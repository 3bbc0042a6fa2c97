use Rattle.std.proofs.Common.{◌≡◌, ℕ, ◌<◌, ◌&&◌, false}
use Rattle.std.specs.Prelude.{is_some}
use Rattle.requests.specs.PredealtHands.{given_by, has_card, seat_given}
use Rattle.requests.proofs.hand_fault.shared_card.Given as goal

abbrev pub invariant-loop-number : goal.invariant-loop-number
invariant-loop-number l = (k : ℕ) → k < l.number → (has_card l.text k && is_some (seat_given (given_by l.earlier) k)) ≡ false
