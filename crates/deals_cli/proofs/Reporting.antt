-- What is said of a wish that was done.
use Rattle.std.proofs.Common.{◌≡◌, ℕ, Result, Ok, Err, OnOk, arith}
use Rattle.sinks.specs.Sinks.{CountsFault}

-- nothing failed, as the faults are unchanged
pub heard : {T E : Type 0} (r : Result T E) (old new : ℕ) (P : Type 0) → CountsFault old new r → new ≡ old → OnOk r P → P
heard (Ok v) old new P counts same h = h
heard (Err e) old new P counts same h = absurd (omega (arith, counts, same))
