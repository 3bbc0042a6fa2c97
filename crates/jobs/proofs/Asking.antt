-- A text asks one question.
use Rattle.std.proofs.Common.{◌≡◌, ◌≤◌, ◌∙◌, ℕ, List, Option, length, sym, ap, ap₂}
use Rattle.cond_lang.specs.Asking.{SpellsQuestion}
use Rattle.conditions.specs.declared.limits.TheConstants.{MOST_PARTS}
use Rattle.conditions.specs.Questions.{Question, parts_asked}
use Rattle.conditions.specs.declared.error.CondError.{CondError}
use Rattle.conditions.specs.declared.error.CondError.TheVariants.{Memory}
use Rattle.jobs.specs.Counting.{IsQuestion}
use Rattle.jobs.specs.Makings.{text_read}
use Rattle.jobs.specs.Failures.{question_failure, status_of}
use Rattle.jobs.specs.declared.failure.Failure.{Failure}
use Rattle.requests.specs.declared.names.QuestionName.{QuestionName}
use Rattle.statistics.specs.Counting.{TitledQuestion, title_of}
use Rattle.statistics.specs.Json.{string_of}

abbrev asked_by : Question → List ℕ × List ℕ → TitledQuestion
asked_by q texts = record { question = q; title = texts.0; string = texts.1 }

same_asked : (a b : TitledQuestion) → a.question ≡ b.question → a.title ≡ b.title → a.string ≡ b.string → a ≡ b
same_asked a b q t s = ap₂ asked_by q (ap₂ (λ (x y : List ℕ). (x, y)) t s)

pub only_question : (D : Option (List ℕ)) (text : List ℕ) (question : Question) (asked b : TitledQuestion)
    → ((q : Question) → length text ≤ 1024 → SpellsQuestion (text_read D text) q → parts_asked q ≤ MOST_PARTS
    → question ≡ q) → asked.question ≡ question → asked.title ≡ title_of text
    → asked.string ≡ string_of text → IsQuestion D text b → b ≡ asked
only_question D text question asked b spelled is title string asks =
    same_asked b asked (sym (is ∙ spelled b.question asks.short asks.spells asks.few)) (asks.title ∙ sym title) (asks.string ∙ sym string)

pub question_memory : (D : Option (List ℕ)) (text : List ℕ) (name : QuestionName) (error : CondError) (f : Failure) (b : TitledQuestion)
    → ((q : Question) → length text ≤ 1024 → SpellsQuestion (text_read D text) q → parts_asked q ≤ MOST_PARTS
    → error ≡ Memory) → f ≡ question_failure name error → IsQuestion D text b → status_of f ≡ 5
question_memory D text name error f b spelled is asks =
    ap status_of (is ∙ ap (question_failure name) (spelled b.question asks.short asks.spells asks.few))
