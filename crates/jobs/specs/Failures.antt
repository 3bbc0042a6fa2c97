-- The status of a failure, and what a failure leaves.
use Rattle.std.specs.Prelude.{◌≡◌, ◌⊎◌, ℕ, ◌+◌, Bool, true, false, Result, Ok, Err}
use Rattle.conditions.specs.declared.error.CondError.{CondError}
use Rattle.conditions.specs.declared.error.CondError.TheVariants.{Memory as no_memory}
use Rattle.boards.specs.declared.cause.Cause.TheVariants as cause
use Rattle.jobs.specs.declared.failure.Failure.{Failure}
use Rattle.jobs.specs.declared.failure.Failure.TheVariants.{CommandLine, Plan, Label, Hand}
use Rattle.jobs.specs.declared.failure.Failure.TheVariants.{Definitions, Condition, Question}
use Rattle.jobs.specs.declared.failure.Failure.TheVariants.{Cells, Interrupted}
use Rattle.jobs.specs.declared.failure.Failure.TheVariants.{Line, Record, Input, EndOfInput}
use Rattle.requests.specs.declared.names.QuestionName.{QuestionName}

-- the exit status of a failure
abbrev pub status_of : Failure → ℕ
status_of (CommandLine text) = 2
status_of (Plan error) = 2
status_of (Label label) = 2
status_of (Hand seat) = 2
status_of (Definitions error) = 3
status_of (Condition error) = 3
status_of (Question name error) = 3
status_of (Cells name) = 3
status_of (Interrupted cause.Output) = 4
status_of (Interrupted cause.Memory) = 5
status_of (Interrupted cause.Spawn) = 6
status_of (Interrupted (cause.Stopped worker)) = 6
status_of (Interrupted (cause.Unclosed worker)) = 6
status_of (Line line) = 7
status_of (Record line) = 7
status_of Input = 7
status_of EndOfInput = 7

-- that memory ran out in a parse is told as it is elsewhere
abbrev pub failure_of : CondError → Failure
failure_of no_memory = Interrupted cause.Memory
failure_of error = Condition error

abbrev pub definitions_failure : CondError → Failure
definitions_failure no_memory = Interrupted cause.Memory
definitions_failure error = Definitions error

abbrev pub question_failure : QuestionName → CondError → Failure
question_failure name no_memory = Interrupted cause.Memory
question_failure name error = Question name error

-- the status of a result
abbrev pub status_in : {T : Type 0} → Result T Failure → ℕ
status_in (Ok value) = 0
status_in (Err failure) = status_of failure

-- how many faults of the output a result tells of
abbrev pub faults_in : {T : Type 0} → Result T Failure → ℕ
faults_in (Err (Interrupted cause.Output)) = 1
faults_in _ = 0

-- the input failed once if the failure says so; where the output failed, it may have failed before
abbrev pub CountsInput : {T : Type 0} → Result T Failure → (old new : ℕ) → Type 0
CountsInput (Err Input) old new = new ≡ old + 1
CountsInput (Err (Interrupted cause.Output)) old new = (new ≡ old) ⊎ (new ≡ old + 1)
CountsInput _ old new = new ≡ old

-- nothing was written before this failure
abbrev pub is_untouched : Failure → Bool
is_untouched (Interrupted cause.Output) = false
is_untouched (Interrupted (cause.Stopped worker)) = false
is_untouched (Interrupted (cause.Unclosed worker)) = false
is_untouched (Line line) = false
is_untouched (Record line) = false
is_untouched Input = false
is_untouched _ = true

-- what refuses a wish before anything is done, or ends it there because memory ran out
abbrev pub is_refusal : Failure → Bool
is_refusal (CommandLine text) = true
is_refusal (Plan error) = true
is_refusal (Label label) = true
is_refusal (Hand seat) = true
is_refusal (Definitions error) = true
is_refusal (Condition error) = true
is_refusal (Question name error) = true
is_refusal (Cells name) = true
is_refusal (Interrupted cause.Memory) = true
is_refusal _ = false
