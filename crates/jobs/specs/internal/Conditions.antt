-- Why a condition is not read.
use Rattle.std.specs.Prelude.{◌≡◌, ◌⊎◌, ℕ, List, Option}
use Rattle.conditions.specs.declared.error.CondError.{CondError}
use Rattle.boards.specs.declared.cause.Cause.TheVariants.{Memory}
use Rattle.jobs.specs.FirstRefusal.{AreDue, IsConditionDue, IsTextDue}
use Rattle.jobs.specs.Makings.{MayBeGiven}
use Rattle.requests.specs.Requests.{Search}
use Rattle.jobs.specs.declared.failure.Failure.{Failure}
use Rattle.jobs.specs.declared.failure.Failure.TheVariants.{Condition, Definitions, Interrupted}

-- memory ran out, or the definitions are refused so
abbrev pub IsDefinitionsFailure : Option (List ℕ) → Failure → Type 0
IsDefinitionsFailure given failure =
    (failure ≡ Interrupted Memory)
    ⊎ ((error : CondError) × (failure ≡ Definitions error) × AreDue given error)

-- memory ran out, or the text is refused so
abbrev pub IsTextFailure : (definitions given : Option (List ℕ)) → Failure → Type 0
IsTextFailure definitions given failure =
    (failure ≡ Interrupted Memory)
    ⊎ ((error : CondError) × (failure ≡ Condition error) × IsTextDue definitions given error)

-- memory ran out, or the text of the lesson or of the condition is refused so
abbrev pub IsEitherFailure : Search → Failure → Type 0
IsEitherFailure s failure =
    (failure ≡ Interrupted Memory)
    ⊎ ((error : CondError) × (failure ≡ Condition error) × IsConditionDue s error)

-- the definitions are not read, or they are and the condition isn't
abbrev pub IsConditionFailure : Search → Failure → Type 0
IsConditionFailure s failure =
    IsDefinitionsFailure s.let_text failure
    ⊎ (MayBeGiven s.let_text × IsEitherFailure s failure)
