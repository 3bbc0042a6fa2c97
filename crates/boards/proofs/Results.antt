-- What stands where a result is Err, and where it isn't.
use Rattle.std.proofs.Common.{◌≡◌}
use Rattle.std.specs.Prelude.{Err, MatchResult, Ok, Result, is_err, true, false}

pub at_err : {T E : Type 0} (P Q : Type 0) (r : Result T E) → true ≡ is_err r → MatchResult r (λ _. P) (λ _. Q) → Q
at_err P Q (Ok x) e h = absurd cc
at_err P Q (Err x) e h = h

pub at_ok : {T E : Type 0} (P Q : Type 0) (r : Result T E) → false ≡ is_err r → MatchResult r (λ _. P) (λ _. Q) → P
at_ok P Q (Ok x) e h = h
at_ok P Q (Err x) e h = absurd cc
