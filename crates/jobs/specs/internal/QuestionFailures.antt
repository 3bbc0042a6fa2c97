-- Why the questions of a `count` are not read.
use Rattle.std.specs.Prelude.{◌≡◌, ◌⊎◌, ℕ, List, Option}
use Rattle.conditions.specs.declared.error.CondError.{CondError}
use Rattle.boards.specs.declared.cause.Cause.TheVariants.{Memory}
use Rattle.jobs.specs.FirstRefusal.{AreRefused, IsQuestionDue}
use Rattle.requests.specs.Requests.{Questions}
use Rattle.jobs.specs.declared.failure.Failure.{Failure}
use Rattle.jobs.specs.declared.failure.Failure.TheVariants.{Interrupted, Question}
use Rattle.requests.specs.declared.names.QuestionName.{QuestionName}

-- memory ran out, or the text of this question is refused so
abbrev pub IsTextFailure : Option (List ℕ) → QuestionName → List ℕ → Failure → Type 0
IsTextFailure definitions name text failure =
    (failure ≡ Interrupted Memory)
    ⊎ ((error : CondError) × (failure ≡ Question name error)
    × IsQuestionDue definitions text error)

-- memory ran out, or the questions are refused so
abbrev pub AreFailure : Option (List ℕ) → Questions → Failure → Type 0
AreFailure definitions questions failure =
    (failure ≡ Interrupted Memory) ⊎ AreRefused definitions questions failure
