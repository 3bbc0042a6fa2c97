use Rattle.std.proofs.Common.{◌≡◌, ℕ, ◌<◌, get_or, true}
use Rattle.requests.specs.PredealtHands.{is_hand_byte}
use Rattle.requests.proofs.hand_fault.unread_place.Given as goal

abbrev pub invariant-loop-place : goal.invariant-loop-place
invariant-loop-place l = (k : ℕ) → k < l.place → is_hand_byte (get_or l.text k 0) ≡ true
