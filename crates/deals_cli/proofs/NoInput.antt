-- Without an input no status is 7, but of words that ask for what needs one.
use Rattle.std.proofs.Common.{◌≡◌, ◌∙◌, ℕ, zero, suc, true, false, List, [], Option, None, Some, Err, refl, sym, subst, inl, inr, arith}
use Rattle.std.proofs.lemmas.List.{append-nil}
use Rattle.clap.specs.Walk.{Text}
use Rattle.boards.specs.declared.cause.Cause.TheVariants as cause
use Rattle.input.specs.NumberTexts.{said}
use Rattle.input.specs.declared.refused_line.RefusedLine.{RefusedLine}
use Rattle.input.specs.declared.numbers.fault.PickFault.TheVariants.{Refused}
use Rattle.boards.specs.declared.report.Report.{Report}
use Rattle.jobs.specs.Failures.{CountsInput, status_of}
use Rattle.deals_cli.specs.Interruptions.{EndsAtRecord, EndsFor}
use Rattle.input.specs.Games.{game_says}
use Rattle.input.specs.Texts.{spelled}
use Rattle.input.specs.declared.records.fault.RefusedRecord.{RefusedRecord}
use Rattle.requests.specs.Requests.{Wish, draw, make, no_search, pick, show}
use Rattle.jobs.specs.declared.failure.Failure.{Failure}
use Rattle.jobs.specs.declared.failure.Failure.TheVariants.{CommandLine, Plan, Label, Hand, Definitions, Condition}
use Rattle.jobs.specs.declared.failure.Failure.TheVariants.{Question, Cells, Interrupted, Line, Record, Input}
use Rattle.jobs.specs.declared.failure.Failure.TheVariants.{EndOfInput}
use Rattle.jobs.specs.Makings.{plan_of}
use Rattle.boards.specs.Plans.{Planned}
use Rattle.input.specs.TricksPicked.{text_picks}
use Rattle.jobs.specs.Statuses.{IsStatus, IsStatusWithInput, parts_of}
use Rattle.deals_cli.specs.Program.{IsStatusOfNone, MayFail, MayLeave, TellsWhy}

nothing_refused : (line : RefusedLine) → (said []).refused ≡ Some line → ⊥
unfolding said
nothing_refused line is = cc

none_told : (line : RefusedLine) (plan : Planned) → (text_picks plan []).refused ≡ Some line → ⊥
unfolding text_picks
none_told line plan is = cc

-- an input without bytes has no line that is refused
no_line_ended : (w : Wish) (line : RefusedLine) (old new : Option (List ℕ)) → ((parts_of w).bytes → ⊥)
    → EndsFor w (Refused line) (Some []) (Some []) old new → ⊥
no_line_ended (pick seed hands l true hints) line old new other e =
    let none : e.given ≡ [] = sym (e.consumed ∙ append-nil e.given) in
    none_told line (plan_of (no_search seed hands) l) (subst
    (λ (t : List ℕ). (text_picks (plan_of (no_search seed hands) l) t).refused ≡ Some line) none e.written.0)
no_line_ended (pick seed hands l false hints) line old new other e =
    let none : e.given ≡ [] = sym (e.consumed ∙ append-nil e.given) in
    nothing_refused line (subst (λ (t : List ℕ). (said t).refused ≡ Some line) none e.written.0)
no_line_ended (make s l true notices) line old new other e = other refl
no_line_ended draw line old new other e = other tt
no_line_ended _ line old new other e = e

no_record : (line : RefusedRecord) → (spelled []).refused ≡ Some line → ⊥
unfolding spelled game_says
no_record line is = cc

no_record_ended : (w : Wish) (line : RefusedRecord) (old new : Option (List ℕ)) → EndsAtRecord w line (Some []) (Some []) old new → ⊥
no_record_ended (show l hints) line old new e =
    let s = e.shows in
    let none : s.given ≡ [] = sym (s.consumed ∙ append-nil s.given) in
    no_record line (subst (λ (t : List ℕ). (spelled t).refused ≡ Some line) none s.written.0)
no_record_ended _ line old new e = e

-- nor does it end before what such words ask for
no_end : (w : Wish) → ((parts_of w).bytes → ⊥) → MayFail w EndOfInput → ⊥
no_end w other (inl memory) = cc
no_end (make s l true notices) other (inr due) = other refl
no_end draw other (inr due) = other tt
no_end _ other (inr due) = due

no_seven : (w : Wish) (f : Failure) (old new : Option (List ℕ)) → ((parts_of w).bytes → ⊥) → MayFail w f
    → MayLeave w f (Some []) (Some []) old new → CountsInput {T = Option Report} (Err f) 0 0 → status_of f ≡ 7 → ⊥
no_seven w (Interrupted cause.Output) old new other due may sound is = cc
no_seven w (Line line) old new other due (inl leaves) sound is = no_line_ended w line old new other leaves
no_seven w (Line line) old new other due (inr flushed) sound is = let bad = flushed.0 in cc
no_seven w (Record line) old new other due (inl leaves) sound is = no_record_ended w line old new leaves
no_seven w (Record line) old new other due (inr flushed) sound is = let bad = flushed.0 in cc
no_seven w Input old new other due may failed is = omega (arith, failed)
no_seven w EndOfInput old new other due may sound is = no_end w other due
no_seven w f old new other due may sound is = cc

-- the first six of the statuses
six_of : (s : ℕ) → IsStatusWithInput s → (s ≡ 7 → ⊥) → IsStatus s
six_of s (zero, below, is) other = (0, omega arith, is)
six_of s (suc zero, below, is) other = (1, omega arith, is)
six_of s (suc (suc zero), below, is) other = (2, omega arith, is)
six_of s (suc (suc (suc zero)), below, is) other = (3, omega arith, is)
six_of s (suc (suc (suc (suc zero))), below, is) other = (4, omega arith, is)
six_of s (suc (suc (suc (suc (suc zero)))), below, is) other = (5, omega arith, is)
six_of s (suc (suc (suc (suc (suc (suc zero))))), below, is) other = absurd (other (sym is))
six_of s (suc (suc (suc (suc (suc (suc (suc n)))))), below, is) other = absurd (omega arith)

pub six : (words : List Text) (o : Option Wish) (s : ℕ) (old new : Option (List ℕ)) (took_all : Type 0)
    (err_old err_new : Option (List ℕ)) → IsStatusWithInput s
    → ((w : Wish) → o ≡ Some w → (s ≡ 0 → ⊥) → TellsWhy w s old new took_all err_old err_new) → (o ≡ None → IsStatusOfNone words s)
    → ((w : Wish) → o ≡ Some w → (parts_of w).bytes → ⊥) → IsStatus s
six words None s old new took_all err_old err_new is some none other = six_of s is (λ seven. (none refl).neither (inr (inr seven)))
six words (Some w) s old new took_all err_old err_new is some none other = six_of s is refused
  where
    refused : s ≡ 7 → ⊥
    refused seven =
        let why = some w refl (λ zero. omega (arith, seven, zero)) in
        no_seven w why.failure old new (other w refl) why.due why.stands why.input (sym why.status_is ∙ seven)
