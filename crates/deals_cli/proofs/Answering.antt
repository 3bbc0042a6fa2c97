-- From what was read of words to what is done for them.
use Rattle.std.proofs.Common.{◌≡◌, ◌∙◌, ℕ, List, Option, None, Some, Result, Ok, Err, true, refl, sym, subst, inl, inr}
use Rattle.std.specs.Prelude.{IsSome}
use Rattle.clap.specs.Kinds.{IsAmong}
use Rattle.clap.specs.Values.{kind_of}
use Rattle.clap.specs.Walk.{Text}
use Rattle.clap.specs.declared.error.Error.{Error}
use Rattle.clap.specs.declared.error.kind.ErrorKind.{ErrorKind}
use Rattle.clap.specs.declared.error.kind.ErrorKind.TheVariants.{OutOfMemory}
use Rattle.boards.specs.declared.cause.Cause.TheVariants as cause
use Rattle.jobs.specs.Failures.{is_refusal, status_of}
use Rattle.jobs.specs.FirstRefusal.{IsDueFor}
use Rattle.deals_cli.specs.Interruptions.{LeavesFrom}
use Rattle.jobs.specs.Jobs.{IsReady, IsRefused, ReadsInput}
use Rattle.deals_cli.specs.Served.{Serves}
use Rattle.requests.specs.Requests.{Wish, conditions, count, draw, lessons, make, pick, show, stream}
use Rattle.jobs.specs.Statuses.{IsStatusOf, parts_of}
use Rattle.deals_cli.specs.Wishes.{AppendsFrom}
use Rattle.jobs.specs.declared.failure.Failure.{Failure}
use Rattle.jobs.specs.declared.failure.Failure.TheVariants.{CommandLine, Plan, Label, Hand, Definitions, Condition, Question, Cells, Interrupted}
use Rattle.jobs.specs.declared.job.Job.{Job}
use Rattle.jobs.specs.declared.job.Job.TheVariants.{Boards, Conditions, Count, Lessons, Stream}
use Rattle.boards.specs.declared.report.Report.{Report}
use Rattle.jobs.proofs.FirstDue.{output_due}
use Rattle.jobs.proofs.Statuses.{no_memory, served}
use Rattle.command_line.specs.CommandLine.{asked, kinds_for}
use Rattle.command_line.specs.Reading.{AreRead}
use Rattle.deals_cli.specs.Program.{Answers, AreRefused, IsStatusFor, IsTaskFor, MayShow, ReadsTask, WantsInput, WritesText, is_shown}
use Rattle.deals_cli.specs.declared.task.Task.{Task}
use Rattle.deals_cli.specs.declared.task.Task.TheVariants.{Do, Show}
use Rattle.deals_cli.specs.internal.Kinds.{RefusesError}
use Rattle.deals_cli.proofs.Statuses.{none_no_memory, none_refused, none_shown}

-- words that ask for this wish ask for no other
same_wish : (words : List Text) (v w : Wish) → asked words ≡ Some v → asked words ≡ Some w → v ≡ w
same_wish words v w a b = let both : Some v ≡ Some w = sym a ∙ b in cc

not_none : {X : Type 0} (words : List Text) (w : Wish) → asked words ≡ Some w → asked words ≡ None → X
not_none words w a b = let bad : Some w ≡ None = sym a ∙ b in absurd cc

-- words with a wish end so if the wish does
wish_status : (words : List Text) (w : Wish) (s : ℕ) → asked words ≡ Some w → IsStatusOf w s → IsStatusFor words s
wish_status words w s is h = record {
  wished = λ v other. subst (λ (x : Wish). IsStatusOf x s) (same_wish words w v is other) h;
  unasked = λ none. not_none words w is none;
}

-- ---- before anything is done

pub refused : (words : List Text) (w : Wish) (f : Failure) → asked words ≡ Some w → IsRefused w f → AreRefused words f
refused words w f is r = record {
  nothing_done = r.nothing_done;
  status = wish_status words w (status_of f) is r.status;
  due = λ v other. inr (subst (λ (x : Wish). IsDueFor x f) (same_wish words w v is other) r.due);
  unasked = λ none. not_none words w is none;
}

-- clap's error isn't that memory ran out: the words ask for nothing
unasked : (words : List Text) (e : Error) → AreRead words (Err e) → (kind_of e ≡ OutOfMemory → ⊥) → asked words ≡ None
unasked words e read other = go (asked words) refl
  where
    go : (o : Option Wish) → asked words ≡ o → asked words ≡ None
    go None is = is
    go (Some w) is = absurd (other (read.0 (subst (λ (x : Option Wish). IsSome x) (sym is) refl)))

among : {X : Type 0} (words : List Text) (e : Error) → AreRead words (Err e) → (kind_of e ≡ OutOfMemory → ⊥)
    → (IsAmong (kind_of e) (kinds_for words) → X) → X
among words e read other then = elim read.1 [ inl memory ↦ absurd (other memory) | inr is ↦ then is ]

shown_is_no_memory : (k : ErrorKind) → is_shown k ≡ true → k ≡ OutOfMemory → ⊥
shown_is_no_memory k shown is = let bad : is_shown OutOfMemory ≡ true = subst (λ (x : ErrorKind). is_shown x ≡ true) is shown in cc

-- what is known of words whose text is shown
abbrev IsShown : List Text → Type 0
IsShown words = (asked words ≡ None) × MayShow words

pub shows : (words : List Text) (e : Error) → AreRead words (Err e) → is_shown (kind_of e) ≡ true → IsShown words
shows words e read shown =
    let other = shown_is_no_memory (kind_of e) shown in
    (unasked words e read other, among words e read other (λ is. record { kind = kind_of e; among = is; shown = shown }))

pub mistaken : (words : List Text) (e : Error) (f : Failure) → AreRead words (Err e) → RefusesError (kind_of e) f → AreRefused words f
mistaken words e (CommandLine text) read because = record {
  nothing_done = refl;
  status = record {
    wished = λ w is. not_none words w is (unasked words e read because.1);
    unasked = λ _. none_refused words (among words e read because.1 (λ is. record { kind = kind_of e; among = is; refused = because.0 }));
  };
  due = λ w is. not_none words w is (unasked words e read because.1);
  unasked = λ _. tt;
}
mistaken words e (Interrupted cause.Memory) read because = record {
  nothing_done = refl;
  status = record { wished = λ w is. no_memory w 5 refl; unasked = λ none. none_no_memory words 5 refl };
  due = λ w is. inl refl;
  unasked = λ _. tt;
}
mistaken words e _ read because = absurd because

-- what is left of it: nothing was written
leaves_nothing : (w : Wish) (f : Failure) (before old : Option (List ℕ)) → is_refusal f ≡ true → LeavesFrom w f before before old old
leaves_nothing w (CommandLine text) before old is = refl
leaves_nothing w (Plan error) before old is = refl
leaves_nothing w (Label label) before old is = refl
leaves_nothing w (Hand seat) before old is = refl
leaves_nothing w (Definitions error) before old is = refl
leaves_nothing w (Condition error) before old is = refl
leaves_nothing w (Question name error) before old is = refl
leaves_nothing w (Cells name) before old is = refl
leaves_nothing w (Interrupted cause.Memory) before old is = refl
leaves_nothing w _ before old is = absurd cc

pub answers_refused : (words : List Text) (f : Failure) (before old : Option (List ℕ)) → AreRefused words f
    → Answers words (Err f) before before old old
answers_refused words f before old r = record {
  text = λ w is. tt;
  report = λ w is. tt;
  no_report = λ none. tt;
  status = r.status;
  due = r.due;
  unasked = r.unasked;
  stands = λ w is. inl (leaves_nothing w f before old r.nothing_done);
  untouched = λ _. refl;
}

-- ---- while it is done

pub answers_job : (words : List Text) (job : Job) (r : Result (Option Report) Failure)
    (before after old new : Option (List ℕ)) → IsTaskFor words (Do job)
    → ((w : Wish) → IsReady w job → Serves w r before after old new) → Answers words r before after old new
answers_job words job (Ok report) before after old new (w, is, ready) serves =
    let s = serves w ready in record {
      text = λ v other. (serves v (ready_for v other)).text;
      report = λ v other. (serves v (ready_for v other)).report;
      no_report = λ none. not_none words w is none;
      status = wish_status words w 0 is s.status;
      due = λ v other. tt;
      unasked = λ none. tt;
      stands = λ v other. tt;
      untouched = tt;
    }
  where
    ready_for : (v : Wish) → asked words ≡ Some v → IsReady v job
    ready_for v other = subst (λ (x : Wish). IsReady x job) (same_wish words w v is other) ready
answers_job words job (Err f) before after old new (w, is, ready) serves =
    let s = serves w ready in record {
      text = λ v other. tt;
      report = λ v other. tt;
      no_report = λ none. tt;
      status = wish_status words w (status_of f) is s.status;
      due = λ v other. inr (serves v (ready_for v other)).due;
      unasked = λ none. not_none words w is none;
      stands = λ v other. inl (serves v (ready_for v other)).stands;
      untouched = s.untouched;
    }
  where
    ready_for : (v : Wish) → asked words ≡ Some v → IsReady v job
    ready_for v other = subst (λ (x : Wish). IsReady x job) (same_wish words w v is other) ready

pub answers_text : (words : List Text) (before after old new : Option (List ℕ)) → IsShown words → Answers words (Ok None) before after old new
answers_text words before after old new (none, may) = record {
  text = λ w is. not_none words w is none;
  report = λ w is. not_none words w is none;
  no_report = λ _. refl;
  status = record { wished = λ w is. not_none words w is none; unasked = λ _. none_shown words 0 (inl refl) may };
  due = λ w is. tt;
  unasked = λ _. tt;
  stands = λ w is. tt;
  untouched = tt;
}

pub breaks_text : (words : List Text) (before after old new : Option (List ℕ)) → IsShown words
    → Answers words (Err (Interrupted cause.Output)) before after old new
breaks_text words before after old new (none, may) = record {
  text = λ w is. tt;
  report = λ w is. tt;
  no_report = λ _. tt;
  status = record { wished = λ w is. not_none words w is none; unasked = λ _. none_shown words 4 (inr refl) may };
  due = λ w is. not_none words w is none;
  unasked = λ _. tt;
  stands = λ w is. not_none words w is none;
  untouched = λ bad. absurd cc;
}

-- ---- the input

-- a job that reads the input is one of a wish that has one
input_read : (w : Wish) (job : Job) → IsReady w job → ReadsInput job → (parts_of w).input
input_read (make s l tricks notices) (Boards job) ready reads = sym ready.tricks_are ∙ reads
input_read (pick seed hands l tricks hints) job ready reads = tt
input_read (show l hints) job ready reads = tt
input_read draw job ready reads = tt
input_read conditions Conditions ready reads = absurd reads
input_read (lessons lesson) (Lessons text) ready reads = absurd reads
input_read (count s q style notices) (Count job) ready reads = absurd reads
input_read (stream seed n) (Stream job) ready reads = absurd reads
input_read _ _ ready reads = absurd ready

pub reads_as_asked : (words : List Text) (task : Task) → IsTaskFor words task → ReadsTask task → WantsInput words
reads_as_asked words (Show text) is reads = absurd reads
reads_as_asked words (Do job) (w, asks, ready) reads = (w, asks, input_read w job ready reads)

-- ---- the flush

pub answers_flushed : (words : List Text) (report : Option Report) (before after old mid new : Option (List ℕ))
    → new ≡ mid → Answers words (Ok report) before after old mid → Answers words (Ok report) before after old new
answers_flushed words report before after old mid new same a =
    subst (λ (o : Option (List ℕ)). Answers words (Ok report) before after old o) (sym same) a

pub flush_fails : (words : List Text) (report : Option Report) (before after old mid new : Option (List ℕ))
    → new ≡ mid → Answers words (Ok report) before after old mid
    → Answers words (Err (Interrupted cause.Output)) before after old new
flush_fails words report before after old mid new same a = record {
  text = λ w is. tt;
  report = λ w is. tt;
  no_report = λ _. tt;
  status = record { wished = wished; unasked = λ none. none_shown words 4 (inr refl) ((a.status.unasked none).shown (inl refl)) };
  due = λ w is. inr (output_due w (a.status.wished w is));
  unasked = λ _. tt;
  stands = λ w is. inr (refl, subst (λ (o : Option (List ℕ)). AppendsFrom w before after old o) (sym same) (a.text w is));
  untouched = λ bad. absurd cc;
}
  where
    wished : (w : Wish) → asked words ≡ Some w → IsStatusOf w 4
    wished w is = let both = (a.status.wished w is).accepted (inl refl) in served w 4 (inr refl) both.0 both.1

-- ---- the text of a task

pub no_text : (task : Task) (f : Failure) (old new : Option (List ℕ)) → WritesText task (Err f) old new
no_text (Show text) f old new = tt
no_text (Do job) f old new = tt

pub text_flushed : (task : Task) (r : Result (Option Report) Failure) (old mid new : Option (List ℕ)) → new ≡ mid
    → WritesText task r old mid → WritesText task r old new
text_flushed task r old mid new same written = subst (λ (o : Option (List ℕ)). WritesText task r old o) (sym same) written
