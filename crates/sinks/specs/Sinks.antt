-- What a call adds to a sink.
use Rattle.std.specs.Prelude.{◌≡◌, ◌<◌, ◌≤◌, ◌+◌, ℕ, List, length, take, Option, Result}
use Rattle.std.specs.Prelude.{MatchResult}
use Rattle.sinks.specs.Appended.{append_known, AppendsAll, AppendsPart}

-- the whole text at Ok, and a proper prefix of it at Err
abbrev pub AppendsOrBreaksOff : {T E : Type 0} → Option (List ℕ) → Option (List ℕ)
    → Result T E → List ℕ → Type 0
AppendsOrBreaksOff old new r text =
    MatchResult r (λ _. AppendsAll old new text) (λ _. AppendsPart old new text)

-- one write: the first n bytes of the piece at Ok(n), and none at Err
abbrev pub AppendsTaken : {E : Type 0} → Option (List ℕ) → Option (List ℕ)
    → Result ℕ E → List ℕ → Type 0
AppendsTaken old new r piece =
    MatchResult r (λ n. new ≡ append_known old (take n piece)) (λ _. new ≡ old)

-- n bytes of the piece, and some unless it has none
abbrev pub IsTakenLength : ℕ → List ℕ → Type 0
IsTakenLength n piece = (n ≤ length piece) × (0 < length piece → 0 < n)

-- the faults rose by one exactly at Err
abbrev pub CountsFault : {T E : Type 0} → ℕ → ℕ → Result T E → Type 0
CountsFault old new r = MatchResult r (λ _. new ≡ old) (λ _. new ≡ old + 1)
