use Rattle.std.proofs.Common.{ℕ, ◌<◌, ◌≤◌}
use Rattle.requests.specs.PredealtHands.{times_in}
use Rattle.requests.proofs.hand_fault.card_twice.Given as goal

abbrev pub invariant-loop-number : goal.invariant-loop-number
invariant-loop-number l = (k : ℕ) → k < l.number → times_in l.text k ≤ 1
