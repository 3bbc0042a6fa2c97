-- From how boards of the input were shown to what is promised of a `show`.
use Rattle.std.proofs.Common.{◌≡◌, ◌∙◌, ◌++◌, ℕ, List, Option, None, Result, Ok, Err, ap, refl, subst, sym, inl, inr}
use Rattle.boards.specs.declared.cause.Cause.TheVariants.{Memory, Output}
use Rattle.jobs.specs.Jobs.{IsReady}
use Rattle.jobs.specs.declared.failure.Failure.{Failure}
use Rattle.jobs.specs.declared.failure.Failure.TheVariants.{Interrupted, Record, Input}
use Rattle.jobs.specs.declared.job.ShowJob.{ShowJob}
use Rattle.jobs.specs.declared.job.Job.TheVariants as a_job
use Rattle.jobs.proofs.Statuses.{failed_input, no_memory, served}
use Rattle.requests.specs.Requests.{Wish, show}
use Rattle.deals_cli.specs.Served.{Serves}
use Rattle.input.specs.Readers.{InputFaults, IsFresh, ReadsNext, unread_spells}
use Rattle.input.specs.Shown.{MoreFaults}
use Rattle.input.specs.Texts.{MayEnd, Spelled}
use Rattle.input.specs.declared.records.reader.BoardReader.{BoardReader}
use Rattle.input.specs.declared.records.reader.Next.{Next}
use Rattle.input.specs.declared.records.reader.ReadFault.{ReadFault}
use Rattle.input.specs.declared.records.reader.ReadFault.TheVariants as read
use Rattle.input.specs.declared.records.shown.ShowFault.{ShowFault}
use Rattle.input.specs.declared.records.shown.ShowFault.TheVariants as fault
use Rattle.deals_cli.specs.internal.Ends.{CountsShown, EndsShowing, EndsShown}
use Rattle.deals_cli.specs.Shown.{FailsFirst, GoesOn, ShowsUnder}

-- ---- how often the input failed

pub counts_shown : (E : Type 0) (first : Result Next ReadFault) (r : Result ℕ ShowFault) (old mid new : ℕ)
    → InputFaults first old mid → MoreFaults first r mid new → CountsShown {E = E} (Ok r) old new
counts_shown E (Ok next) (Ok boards) old mid new h more = more ∙ h
counts_shown E (Ok next) (Err (fault.Refused line)) old mid new h more = more ∙ h
counts_shown E (Ok next) (Err fault.Input) old mid new h more = rw h at more
counts_shown E (Ok next) (Err fault.Output) old mid new h more = inl (more ∙ h)
counts_shown E (Err read.Input) (Ok boards) old mid new h more = absurd more.1
counts_shown E (Err read.Input) (Err (fault.Refused line)) old mid new h more = let bad = more.1 in cc
counts_shown E (Err read.Input) (Err fault.Input) old mid new h more = more.0 ∙ h
counts_shown E (Err read.Input) (Err fault.Output) old mid new h more = inr (more.0 ∙ h)
counts_shown E (Err (read.Refused line)) (Ok boards) old mid new h more = absurd more.1
counts_shown E (Err (read.Refused line)) (Err (fault.Refused other)) old mid new h more = more.0 ∙ h
counts_shown E (Err (read.Refused line)) (Err fault.Input) old mid new h more = let bad = more.1 in cc
counts_shown E (Err (read.Refused line)) (Err fault.Output) old mid new h more = inl (more.0 ∙ h)

-- a first read that didn't fail
pub none_failed : (first : Result Next ReadFault) (old new : ℕ) → InputFaults first old new → (first ≡ Err read.Input → ⊥) → new ≡ old
none_failed (Ok next) old new h other = h
none_failed (Err (read.Refused line)) old new h other = h
none_failed (Err read.Input) old new h other = absurd (other refl)

pub goes_on : (first : Result Next ReadFault) (r : Result ℕ ShowFault) (old new : ℕ) → MoreFaults first r old new
    → (first ≡ Err read.Input → ⊥) → GoesOn first r
goes_on (Ok next) r old new h other = tt
goes_on (Err (read.Refused line)) r old new h other = h.1
goes_on (Err read.Input) r old new h other = absurd (other refl)

-- nothing was written where that failed, and no board is sure
pub fails_first : (start next : BoardReader) (first : Result Next ReadFault) (before after out : Option (List ℕ))
    → IsFresh start → ReadsNext start next first before after → first ≡ Err read.Input → FailsFirst before after out out
fails_first start next first before after out fresh reads is =
    let failed : ReadsNext start next (Err read.Input) before after = subst (λ f. ReadsNext start next f before after) is reads in
    let end : MayEnd (λ rest. unread_spells start (failed.given ++ rest)) = failed.tells in
    record {
      given = failed.given;
      consumed = failed.consumed;
      no_board = record {
        rest = end.rest;
        none = ap (λ (s : Spelled). s.boards) (sym (fresh (failed.given ++ end.rest))) ∙ end.none;
      };
      nothing = refl;
    }

-- ---- of a job

pub ends_shown : (job : ShowJob) (r : Result ℕ ShowFault) (before after old new : Option (List ℕ))
    → ShowsUnder job.format job.show job.heading r before after old new → EndsShown job r before after old new
ends_shown job (Ok n) before after old new h = h
ends_shown job (Err (fault.Refused line)) before after old new h = h
ends_shown job (Err fault.Input) before after old new h = inr h
ends_shown job (Err fault.Output) before after old new h = h

-- ---- of a wish

pub shown : {T : Type 0} (w : Wish) (job : ShowJob) (value : T) (before after old new : Option (List ℕ))
    → IsReady w (a_job.Show job) → EndsShowing {T = T} job (Ok value) before after old new
    → Serves w (Ok None) before after old new
shown (show l hints) job value before after old new (labels, format_is, show_is, heading_is) ends = record {
  text = rw (format_is, show_is, heading_is) at ends;
  report = refl;
  status = served (show l hints) 0 (inl refl) labels tt;
  untouched = tt;
  stands = tt;
  due = tt;
}
shown _ job value before after old new ready ends = absurd ready

pub show_fails : (T : Type 0) (w : Wish) (job : ShowJob) (f : Failure) (before after old new : Option (List ℕ))
    → IsReady w (a_job.Show job) → EndsShowing {T = T} job (Err f) before after old new
    → Serves w (Err f) before after old new
show_fails T (show l hints) job (Interrupted Memory) before after old new (labels, format_is, show_is, heading_is) ends = record {
  text = tt;
  report = tt;
  status = no_memory (show l hints) 5 refl;
  untouched = λ _. ends;
  stands = ends;
  due = labels;
}
show_fails T (show l hints) job (Interrupted Output) before after old new (labels, format_is, show_is, heading_is) ends = record {
  text = tt;
  report = tt;
  status = served (show l hints) 4 (inr refl) labels tt;
  untouched = λ bad. absurd cc;
  stands = rw (format_is, show_is, heading_is) at ends;
  due = labels;
}
show_fails T (show l hints) job (Record line) before after old new (labels, format_is, show_is, heading_is) ends = record {
  text = tt;
  report = tt;
  status = failed_input (show l hints) 7 refl labels tt tt;
  untouched = λ bad. absurd cc;
  stands = rw (format_is, show_is, heading_is) at ends;
  due = labels;
}
show_fails T (show l hints) job Input before after old new (labels, format_is, show_is, heading_is) ends = record {
  text = tt;
  report = tt;
  status = failed_input (show l hints) 7 refl labels tt tt;
  untouched = λ bad. absurd cc;
  stands = rw (format_is, show_is, heading_is) at ends;
  due = labels;
}
show_fails T (show l hints) job _ before after old new ready ends = absurd ends
show_fails T _ job f before after old new ready ends = absurd ready
