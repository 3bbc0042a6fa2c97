-- The text of a lesson and that of a condition.
use Rattle.std.proofs.Common.{◌≡◌, ℕ, List, false, Option, None, Some, is_some, refl, inl, inr, option_map}
use Rattle.std.specs.Borrow.{Bor}
use Rattle.cond_lang.specs.Form.{Form, compare, number}
use Rattle.conditions.specs.declared.tree.Op.TheVariants.{Equal}
use Rattle.jobs.specs.Failures.{status_of}
use Rattle.jobs.specs.Makings.{BothMean, TextMeans}
use Rattle.jobs.specs.declared.failure.Failure.{Failure}
use Rattle.jobs.specs.internal.Conditions.{IsEitherFailure, IsTextFailure}
use Rattle.requests.specs.Requests.{Search}

every_deal : Form
every_deal = compare (number 0) Equal (number 0)

-- where they mean something, each of them does
pub lesson_memory : (lesson D given : Option (List ℕ)) (f : Failure) → ((a : Form) → TextMeans None lesson a → status_of f ≡ 5)
    → (form : Form) → BothMean lesson D given form → status_of f ≡ 5
unfolding every_deal
lesson_memory None D given f h form means = h every_deal refl
lesson_memory (Some text) D None f h form means = h form means
lesson_memory (Some text) D (Some other) f h form means = h means.0 means.2

pub condition_memory : (lesson D given : Option (List ℕ)) (f : Failure) → ((b : Form) → TextMeans D given b → status_of f ≡ 5)
    → (form : Form) → BothMean lesson D given form → status_of f ≡ 5
unfolding every_deal
condition_memory None D given f h form means = h form means
condition_memory (Some text) D None f h form means = h every_deal refl
condition_memory (Some text) D (Some other) f h form means = h means.1 means.3

-- the condition is refused after a lesson that means something
pub condition_failure : (s : Search) (lesson : Form) (f : Failure) → TextMeans None s.lesson lesson
    → IsTextFailure s.let_text s.where_text f → IsEitherFailure s f
condition_failure s lesson f means (inl memory) = inl memory
condition_failure s lesson f means (inr (error, is, due)) = inr (error, is, inr ((lesson, means), due))

-- or without one
pub failure_alone : (o : Option (Bor (List ℕ))) (s : Search) (f : Failure) → s.lesson ≡ option_map (λ t. t.now) o
    → is_some o ≡ false → IsTextFailure s.let_text s.where_text f → IsEitherFailure s f
unfolding every_deal
failure_alone None s f is none h = condition_failure s every_deal f (rw is refl) h
failure_alone (Some text) s f is none h = absurd cc
