use Rattle.std.proofs.Common.{◌≡◌, ℕ, ◌<◌, None, get_or, length}
use Rattle.requests.specs.PredealtHands.{given_by, seat_given}
use Rattle.requests.proofs.hands.PredealtHands.seats.Given as goal

abbrev pub invariant-loop-card : goal.invariant-loop-card
invariant-loop-card l = record {
  each : (k : ℕ) → k < l.card → get_or l.seats k None ≡ seat_given (given_by l.self) k;
  count : length l.seats ≡ 52;
}
