-- How the refusal of a condition ends the program.
use Rattle.std.proofs.Common.{◌≡◌, ◌≤◌, ℕ, List, length, Option, Some, refl, ap, sym, ◌∙◌, subst, option_map, arith}
use Rattle.std.specs.Borrow.{Bor}
use Rattle.cond_lang.specs.Form.{Form}
use Rattle.conditions.specs.declared.error.CondError.{CondError}
use Rattle.conditions.specs.declared.error.CondError.TheVariants.{Memory}
use Rattle.jobs.specs.Failures.{definitions_failure, failure_of, status_of}
use Rattle.jobs.specs.Makings.{AreGiven, MayBeGiven, TextMeans}
use Rattle.cond_lang.specs.After.{GivesNames}
use Rattle.jobs.specs.Statuses.{IsStatusWithInput}
use Rattle.jobs.specs.declared.failure.Failure.{Failure}
use Rattle.boards.specs.declared.cause.Cause.TheVariants as cause
use Rattle.jobs.specs.declared.failure.Failure.TheVariants.{CommandLine, Plan, Label, Hand, Definitions, Condition, Question, Cells, Interrupted}

-- a text that means something is refused only where memory ran out
pub meant_status : (D : Option (List ℕ)) (o : Option (Bor (List ℕ))) (text : Bor (List ℕ)) (e : CondError) → o ≡ Some text
    → ((f : Form) → TextMeans D (Some text.now) f → e ≡ Memory) → (f : Form)
    → TextMeans D (option_map (λ s. s.now) o) f → status_of (failure_of e) ≡ 5
meant_status D o text e given memory f means =
    let here : TextMeans D (Some text.now) f = subst (λ (x : Option (Bor (List ℕ))). TextMeans D (option_map (λ s. s.now) x) f) given means in
    ap (λ x. status_of (failure_of x)) (memory f here)

-- definitions are refused only where memory ran out, or where they are none
pub given_status : (o : Option (Bor (List ℕ))) (text : Bor (List ℕ)) (bytes : List ℕ) (e : CondError) → o ≡ Some text → bytes ≡ text.now
    → (length bytes ≤ 4096 → GivesNames bytes → e ≡ Memory) → MayBeGiven (option_map (λ s. s.now) o) → status_of (definitions_failure e) ≡ 5
given_status o text bytes e given same memory may =
    let are : AreGiven bytes = may bytes (ap (option_map (λ s. s.now)) given ∙ ap (λ (t : List ℕ). Some t) (sym same)) in
    ap (λ x. status_of (definitions_failure x)) (memory are.short are.names)

-- a failure's status is one of the program's
pub status_of-status : (f : Failure) → IsStatusWithInput (status_of f)
status_of-status (CommandLine text) = (1, omega arith, refl)
status_of-status (Plan error) = (1, omega arith, refl)
status_of-status (Label label) = (1, omega arith, refl)
status_of-status (Hand seat) = (1, omega arith, refl)
status_of-status (Definitions error) = (2, omega arith, refl)
status_of-status (Condition error) = (2, omega arith, refl)
status_of-status (Question name error) = (2, omega arith, refl)
status_of-status (Cells name) = (2, omega arith, refl)
status_of-status (Interrupted cause.Output) = (3, omega arith, refl)
status_of-status (Interrupted cause.Memory) = (4, omega arith, refl)
status_of-status (Interrupted cause.Spawn) = (5, omega arith, refl)
status_of-status (Interrupted (cause.Stopped worker)) = (5, omega arith, refl)
status_of-status (Interrupted (cause.Unclosed worker)) = (5, omega arith, refl)
status_of-status _ = (6, omega arith, refl)
