-- What comes back where memory can run out.
use Rattle.std.specs.Prelude.{◌≡◌, ◌⊎◌, Result, MatchResult}
use Rattle.conditions.specs.declared.error.CondError.{CondError}
use Rattle.conditions.specs.declared.error.CondError.TheVariants.{Memory}
use Rattle.conditions.specs.Form.{Form}

-- the result is this tree, unless memory ran out
abbrev pub IsUnlessMemory : Result Form CondError → Form → Type 0
IsUnlessMemory result tree = MatchResult result (λ t. t ≡ tree) (λ e. e ≡ Memory)

-- the result is this refusal, unless memory ran out
abbrev pub IsErrUnlessMemory : {A : Type 0} → Result A CondError → CondError → Type 0
IsErrUnlessMemory result refusal =
    MatchResult result (λ x. ⊥) (λ e. (e ≡ refusal) ⊎ (e ≡ Memory))
