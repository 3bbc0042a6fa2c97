-- From what was done, and what was said of it, to what the program promises.
use Rattle.std.proofs.Common.{◌≡◌, ◌∙◌, ◌⊎◌, ◌+◌, ◌==◌, ℕ, List, Option, None, Some, Result, Ok, Err, true, refl, sym, ap, subst, inl, inr, arith}
use Rattle.std.specs.Prelude.{if◌then◌else◌}
use Rattle.clap.specs.Walk.{Text}
use Rattle.boards.specs.declared.cause.Cause.TheVariants as cause
use Rattle.boards.specs.declared.report.Report.{Report}
use Rattle.jobs.specs.Failures.{CountsInput, faults_in, is_untouched, status_in, status_of}
use Rattle.jobs.specs.Statuses.{IsStatusWithInput}
use Rattle.jobs.specs.declared.failure.Failure.{Failure}
use Rattle.jobs.specs.declared.failure.Failure.TheVariants.{CommandLine, Plan, Label, Hand, Definitions, Condition}
use Rattle.jobs.specs.declared.failure.Failure.TheVariants.{Question, Cells, Interrupted, Line, Record, Input}
use Rattle.jobs.specs.declared.failure.Failure.TheVariants.{EndOfInput}
use Rattle.jobs.proofs.Refusals.{status_of-status}
use Rattle.requests.specs.Requests.{Wish, make}
use Rattle.command_line.specs.CommandLine.{asked}
use Rattle.deals_cli.specs.Program.{Answers, HasReport, TellsUnasked, TellsWhyFrom}
use Rattle.deals_cli.specs.Reported.{Says}
use Rattle.deals_cli.specs.Wishes.{AppendsFrom}
use Rattle.deals_cli.proofs.Reports.{none_made, said, some_made}

-- ---- by the failure

no_zero : {X : Type 0} (f : Failure) → status_of f ≡ 0 → X
no_zero (Interrupted cause.Output) is = cc
no_zero (Interrupted _) is = cc
no_zero _ is = cc

-- a status that leaves the output untouched
abbrev Untouches : ℕ → Type 0
Untouches s = (s ≡ 2) ⊎ (s ≡ 3) ⊎ (s ≡ 5)

untouched_by : (f : Failure) → Untouches (status_of f) → is_untouched f ≡ true
untouched_by (Interrupted cause.Output) h = elim h [ inl a ↦ cc | inr (inl a) ↦ cc | inr (inr a) ↦ cc ]
untouched_by (Interrupted (cause.Stopped worker)) h = elim h [ inl a ↦ cc | inr (inl a) ↦ cc | inr (inr a) ↦ cc ]
untouched_by (Interrupted (cause.Unclosed worker)) h = elim h [ inl a ↦ cc | inr (inl a) ↦ cc | inr (inr a) ↦ cc ]
untouched_by (Line line) h = elim h [ inl a ↦ cc | inr (inl a) ↦ cc | inr (inr a) ↦ cc ]
untouched_by (Record line) h = elim h [ inl a ↦ cc | inr (inl a) ↦ cc | inr (inr a) ↦ cc ]
untouched_by Input h = elim h [ inl a ↦ cc | inr (inl a) ↦ cc | inr (inr a) ↦ cc ]
untouched_by f h = refl

faults_by_status : (r : Result (Option Report) Failure) → faults_in r ≡ (if status_in r == 4 then 1 else 0)
faults_by_status (Ok report) = refl
faults_by_status (Err (Interrupted cause.Output)) = refl
faults_by_status (Err (Interrupted _)) = refl
faults_by_status (Err _) = refl

-- ---- the clauses

pub text_at_zero : (words : List Text) (r : Result (Option Report) Failure) (w : Wish) (s : ℕ)
    (before after old new : Option (List ℕ)) → Answers words r before after old new → s ≡ status_in r
    → asked words ≡ Some w → s ≡ 0 → AppendsFrom w before after old new
text_at_zero words (Ok report) w s before after old new a is asks zero = a.text w asks
text_at_zero words (Err f) w s before after old new a is asks zero = no_zero f (sym is ∙ zero)

pub why : (words : List Text) (r : Result (Option Report) Failure) (w : Wish) (s : ℕ)
    (before after old new : Option (List ℕ)) (input_old input_new : ℕ) (took_all : Type 0)
    (err_old err_new : Option (List ℕ))
    → Answers words r before after old new → s ≡ status_in r → CountsInput r input_old input_new
    → Says r took_all err_old err_new → asked words ≡ Some w → (s ≡ 0 → ⊥)
    → TellsWhyFrom w s before after input_old input_new old new took_all err_old err_new
why words (Ok report) w s before after old new input_old input_new took_all err_old err_new a is counts says asks failed = absurd (failed is)
why words (Err f) w s before after old new input_old input_new took_all err_old err_new a is counts says asks failed = record {
  failure = f;
  due = a.due w asks;
  status_is = is;
  stands = a.stands w asks;
  input = counts;
  line = says;
}

pub why_unasked : (words : List Text) (r : Result (Option Report) Failure) (s : ℕ)
    (before after old new : Option (List ℕ)) (took_all : Type 0) (err_old err_new : Option (List ℕ))
    → Answers words r before after old new → s ≡ status_in r → Says r took_all err_old err_new → asked words ≡ None
    → (s ≡ 0 → ⊥) → TellsUnasked s took_all err_old err_new
why_unasked words (Ok report) s before after old new took_all err_old err_new a is says none failed = absurd (failed is)
why_unasked words (Err f) s before after old new took_all err_old err_new a is says none failed = record {
  failure = f;
  fails = a.unasked none;
  status_is = is;
  line = says;
}

pub one_of_seven : (r : Result (Option Report) Failure) (s : ℕ) → s ≡ status_in r → IsStatusWithInput s
one_of_seven (Ok report) s is = (0, omega arith, sym is)
one_of_seven (Err f) s is = subst IsStatusWithInput (sym is) (status_of-status f)

pub nothing_written : (words : List Text) (r : Result (Option Report) Failure) (s : ℕ)
    (before after old new : Option (List ℕ)) → Answers words r before after old new → s ≡ status_in r
    → Untouches s → new ≡ old
nothing_written words (Ok report) s before after old new a is h =
    let zero : s ≡ 0 = is in absurd (elim h [
      | inl b ↦ omega (arith, zero, b)
      | inr (inl b) ↦ omega (arith, zero, b)
      | inr (inr b) ↦ omega (arith, zero, b)
    ])
nothing_written words (Err f) s before after old new a is h = a.untouched (untouched_by f (subst Untouches is h))

pub output_counted : (r : Result (Option Report) Failure) (s old new : ℕ) → s ≡ status_in r → new ≡ old + faults_in r
    → new ≡ old + (if s == 4 then 1 else 0)
output_counted r s old new is h = subst (λ (n : ℕ). new ≡ old + (if n == 4 then 1 else 0)) (sym is) (h ∙ ap (λ (n : ℕ). old + n) (faults_by_status r))

pub input_kept : (r : Result (Option Report) Failure) (s old new : ℕ) → s ≡ status_in r → CountsInput r old new
    → (s ≡ 4 → ⊥) → (s ≡ 7 → ⊥) → new ≡ old
input_kept (Err (Interrupted cause.Output)) s old new is h four seven = absurd (four is)
input_kept (Err Input) s old new is h four seven = absurd (seven is)
input_kept r s old new is h four seven = h

pub has_report : (words : List Text) (r : Result (Option Report) Failure) (s : ℕ)
    (before after old new : Option (List ℕ)) (took_all : Type 0) (err_old err_new : Option (List ℕ))
    → Answers words r before after old new → s ≡ status_in r → Says r took_all err_old err_new → s ≡ 0 → HasReport words took_all err_old err_new
has_report words (Err f) s before after old new took_all err_old err_new a is says zero = no_zero f (sym is ∙ zero)
has_report words (Ok None) s before after old new took_all err_old err_new a is says zero = record {
  reported = λ search look tricks notices asks wants took. absurd
      (some_made search look tricks notices (a.report (make search look tricks notices) asks) wants);
  quiet = λ quiet. says;
}
has_report words (Ok (Some report)) s before after old new took_all err_old err_new a is says zero = record {
  reported = λ search look tricks notices asks wants took. said search look tricks notices report err_old err_new
      (a.report (make search look tricks notices) asks) (says took);
  quiet = λ quiet. absurd (none_made (asked words) report a.report a.no_report quiet);
}
