use Rattle.std.proofs.Common.{◌≡◌}
use Rattle.test_runs.proofs.events.replay.Given as goal

abbrev pub invariant-loop-event : goal.invariant-loop-event
invariant-loop-event g l = l.core.workers ≡ l.initial.core.workers
