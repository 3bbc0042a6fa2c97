-- From how the parts of a job end to what is promised of a wish.
use Rattle.std.proofs.Common.{◌≡◌, ◌⊎◌, ℕ, List, Option, None, Some, Ok, Err, true, false, refl, string_bytes, sym, ◌∙◌, inl, inr}
use Rattle.cond_lang.specs.Form.{Form}
use Rattle.jobs.specs.Makings.{Means}
use Rattle.dealrun.specs.Values.{lines}
use Rattle.boards.specs.declared.cause.Cause.{Cause}
use Rattle.boards.specs.declared.cause.Cause.TheVariants.{Memory, Spawn, Output, Stopped, Unclosed}
use Rattle.jobs.specs.Failures.{is_untouched}
use Rattle.deals_cli.specs.Interruptions.{EndsTold, InterruptsCount, InterruptsMake, LeavesFrom}
use Rattle.jobs.specs.Jobs.{IsReady}
use Rattle.deals_cli.specs.Served.{Serves}
use Rattle.requests.specs.Requests.{Look, Questions, Search, Wish, conditions, count, draw, lessons, make, pick, stream}
use Rattle.deals_cli.specs.Wishes.{language_page}
use Rattle.jobs.specs.declared.failure.Failure.{Failure}
use Rattle.jobs.specs.declared.failure.Failure.TheVariants.{Interrupted, Line, Input, EndOfInput}
use Rattle.jobs.specs.declared.boards_job.BoardsJob.{BoardsJob}
use Rattle.jobs.specs.declared.count_job.CountJob.{CountJob}
use Rattle.jobs.specs.declared.job.PickJob.{PickJob}
use Rattle.jobs.specs.declared.job.Job.TheVariants.{Boards, Conditions, Count, Lessons, Pick, Seed, Stream}
use Rattle.boards.specs.declared.report.Report.{Report}
use Rattle.requests.specs.declared.stream.StreamRequest.{StreamRequest}
use Rattle.deals_cli.specs.internal.Ends.{EndsBoards, EndsCount, EndsDraw, EndsPicking, EndsReady}
use Rattle.deals_cli.specs.WithTricks.{BreaksTold, FailsTold, StopsAtLine}
use Rattle.input.specs.declared.refused_line.RefusedLine.{RefusedLine}
use Rattle.input.specs.declared.numbers.fault.PickFault.{PickFault}
use Rattle.input.specs.declared.numbers.fault.PickFault.TheVariants.{Refused, Input as PickInput}
use Rattle.jobs.proofs.FirstDue.{count_run_due, run_due}
use Rattle.jobs.proofs.Statuses.{failed_input, interrupted, no_memory, served}
use Rattle.sinks.specs.Appended.{AppendsAll, AppendsPart}
use Rattle.statistics.specs.Subjects.{subject_of}

-- ---- a run

-- what a run promises of its own plan is promised of the wish
run_text : (w : Wish) (job : BoardsJob) (report : Report) (r : Option Report) (before after old new : Option (List ℕ))
    → IsReady w (Boards job) → job.tricks ≡ false → EndsBoards job (Ok report) old new
    → (job.report ≡ true) × (r ≡ Some report) ⊎ (job.report ≡ false) × (r ≡ None) → Serves w (Ok r) before after old new
run_text (make s l false notices) job report r before after old new ready kind ends asked =
    let written = rw (ready.plan_is, ready.heading_is, ready.format_is, ready.show_is) at ends in record {
      text = (job.condition, ready.means, written.0);
      report = elim asked [
        | inl made ↦ rw made.1 (sym ready.report_is ∙ made.0, (job.condition, ready.means, written.1))
        | inr none ↦ rw none.1 (sym ready.report_is ∙ none.0)
      ];
      status = served (make s l false notices) 0 (inl refl) ready.planned (job.condition, ready.means);
      untouched = tt;
      stands = tt;
      due = tt;
    }
run_text (make s l true notices) job report r before after old new ready kind ends asked =
    absurd (let bad : true ≡ false = sym ready.tricks_are ∙ kind in cc)
run_text _ job report r before after old new ready kind ends asked = absurd ready

pub reported : (w : Wish) (job : BoardsJob) (report : Report) (before after old new : Option (List ℕ))
    → IsReady w (Boards job) → job.tricks ≡ false → EndsBoards job (Ok report) old new → job.report ≡ true
    → Serves w (Ok (Some report)) before after old new
reported w job report before after old new ready kind ends asked =
    run_text w job report (Some report) before after old new ready kind ends (inl (asked, refl))

pub unreported : (w : Wish) (job : BoardsJob) (report : Report) (before after old new : Option (List ℕ))
    → IsReady w (Boards job) → job.tricks ≡ false → EndsBoards job (Ok report) old new → job.report ≡ false
    → Serves w (Ok None) before after old new
unreported w job report before after old new ready kind ends asked =
    run_text w job report None before after old new ready kind ends (inr (asked, refl))

-- what an interrupted run leaves
run_leaves : (s : Search) (l : Look) (notices : _) (c : Cause) (before after old new : Option (List ℕ)) → InterruptsMake s l c old new
    → LeavesFrom (make s l false notices) (Interrupted c) before after old new × (is_untouched (Interrupted c) ≡ true → new ≡ old)
run_leaves s l notices Memory before after old new h = (h.run.stands.2, λ _. h.run.stands.2)
run_leaves s l notices Spawn before after old new h = (h, λ _. h.run.stands.3)
run_leaves s l notices _ before after old new h = (h, λ bad. absurd cc)

pub interrupts : (w : Wish) (job : BoardsJob) (c : Cause) (before after old new : Option (List ℕ))
    → IsReady w (Boards job) → job.tricks ≡ false → EndsBoards job (Err c) old new
    → Serves w (Err (Interrupted c)) before after old new
interrupts (make s l false notices) job c before after old new ready kind ends =
    let run = rw (ready.plan_is, ready.heading_is, ready.format_is, ready.show_is, ready.workers_are) at ends in
    let leaves = run_leaves s l notices c before after old new
    (record { form = job.condition; means = ready.means; workers = run.0; are_workers = run.1; run = run.2 }) in
    record {
      text = tt;
      report = tt;
      status = interrupted (make s l false notices) c ready.planned (job.condition, ready.means) tt;
      untouched = leaves.1;
      stands = leaves.0;
      due = run_due s l c ready.planned job.condition ready.means;
    }
interrupts (make s l true notices) job c before after old new ready kind ends = absurd (let bad : true ≡ false = sym ready.tricks_are ∙ kind in cc)
interrupts _ job c before after old new ready kind ends = absurd ready

-- ---- a count

pub counted : (T : Type 0) (w : Wish) (job : CountJob) (value : T) (before after old new : Option (List ℕ))
    → IsReady w (Count job) → EndsCount job (Ok value) old new
    → Serves w (Ok None) before after old new
counted T (count s q style notices) job value before after old new (planned, plan_is, means, asked, style_is, workers_are) ends =
    let written = rw (plan_is, style_is) at ends in record {
      text = (job.condition, means, (subject_of job.subject, asked, written));
      report = refl;
      status = served (count s q style notices) 0 (inl refl) planned ((job.condition, means), (subject_of job.subject, asked));
      untouched = tt;
      stands = tt;
      due = tt;
    }
counted T _ job value before after old new ready ends = absurd ready

count_leaves : (s : Search) (q : Questions) (style : _) (notices : _) (c : Cause)
    (before after old new : Option (List ℕ)) → InterruptsCount s q style c old new
    → LeavesFrom (count s q style notices) (Interrupted c) before after old new × (is_untouched (Interrupted c) ≡ true → new ≡ old)
count_leaves s q style notices Memory before after old new h = (h.run.stands.2, λ _. h.run.stands.2)
count_leaves s q style notices Spawn before after old new h = (h, λ _. h.run.stands.3)
count_leaves s q style notices _ before after old new h = (h, λ bad. absurd cc)

pub count_interrupts : (T : Type 0) (w : Wish) (job : CountJob) (c : Cause) (before after old new : Option (List ℕ))
    → IsReady w (Count job) → EndsCount {T = T} job (Err c) old new
    → Serves w (Err (Interrupted c)) before after old new
count_interrupts T (count s q style notices) job c before after old new (planned, plan_is, means, asked, style_is, workers_are) ends =
    let run = rw (plan_is, style_is, workers_are) at ends in
    let subject = subject_of job.subject in
    let leaves = count_leaves s q style notices c before after old new
    (record {
      form = job.condition;
      means = means;
      subject = subject;
      asked = asked;
      workers = run.0;
      are_workers = run.1;
      run = run.2;
    }) in record {
      text = tt;
      report = tt;
      status = interrupted (count s q style notices) c planned ((job.condition, means), (subject, asked)) tt;
      untouched = leaves.1;
      stands = leaves.0;
      due = count_run_due s q c planned (job.condition, means) subject asked;
    }
count_interrupts T _ job c before after old new ready ends = absurd ready

-- ---- a pick

pub picked : {T : Type 0} (w : Wish) (job : PickJob) (value : T) (before after old new : Option (List ℕ))
    → IsReady w (Pick job) → EndsPicking {T = T} job (Ok value) before after old new
    → Serves w (Ok None) before after old new
picked (pick seed hands l tricks hints) job value before after old new (planned, plan_is, heading_is, format_is, show_is, tricks_is) ends = record {
  text = rw (plan_is, heading_is, format_is, show_is, tricks_is) at ends;
  report = refl;
  status = served (pick seed hands l tricks hints) 0 (inl refl) planned tt;
  untouched = tt;
  stands = tt;
  due = tt;
}
picked _ job value before after old new ready ends = absurd ready

pub pick_fails : (T : Type 0) (w : Wish) (job : PickJob) (f : Failure) (before after old new : Option (List ℕ))
    → IsReady w (Pick job) → EndsPicking {T = T} job (Err f) before after old new
    → Serves w (Err f) before after old new
pick_fails T (pick seed hands l tricks hints) job (Interrupted Memory) before after old new
    (planned, plan_is, heading_is, format_is, show_is, tricks_is) ends = record {
      text = tt;
      report = tt;
      status = no_memory (pick seed hands l tricks hints) 5 refl;
      untouched = λ _. ends.1;
      stands = ends.1;
      due = planned;
    }
pick_fails T (pick seed hands l tricks hints) job (Interrupted Output) before after old new
    (planned, plan_is, heading_is, format_is, show_is, tricks_is) ends = record {
      text = tt;
      report = tt;
      status = served (pick seed hands l tricks hints) 4 (inr refl) planned tt;
      untouched = λ bad. absurd cc;
      stands = rw (plan_is, heading_is, format_is, show_is, tricks_is) at ends;
      due = planned;
    }
pick_fails T (pick seed hands l tricks hints) job (Line line) before after old new
    (planned, plan_is, heading_is, format_is, show_is, tricks_is) ends = record {
      text = tt;
      report = tt;
      status = failed_input (pick seed hands l tricks hints) 7 refl planned tt tt;
      untouched = λ bad. absurd cc;
      stands = rw (plan_is, heading_is, format_is, show_is, tricks_is) at ends;
      due = planned;
    }
pick_fails T (pick seed hands l tricks hints) job Input before after old new
    (planned, plan_is, heading_is, format_is, show_is, tricks_is) ends = record {
      text = tt;
      report = tt;
      status = failed_input (pick seed hands l tricks hints) 7 refl planned tt tt;
      untouched = λ bad. absurd cc;
      stands = rw (plan_is, heading_is, format_is, show_is, tricks_is) at ends;
      due = planned;
    }
pick_fails T (pick seed hands l tricks hints) job _ before after old new ready ends = absurd ends
pick_fails T _ job f before after old new ready ends = absurd ready

-- ---- the page of the language, and values

pub page_written : (w : Wish) (before after old new : Option (List ℕ)) → IsReady w Conditions
    → AppendsAll old new language_page → Serves w (Ok None) before after old new
page_written conditions before after old new ready text =
    record {
      text = text;
      report = refl;
      status = served conditions 0 (inl refl) tt tt;
      untouched = tt;
      stands = tt;
      due = tt;
    }
page_written _ before after old new ready text = absurd ready

pub page_breaks : (w : Wish) (before after old new : Option (List ℕ)) → IsReady w Conditions
    → AppendsPart old new language_page → Serves w (Err (Interrupted Output)) before after old new
page_breaks conditions before after old new ready part =
    record {
      text = tt;
      report = tt;
      status = served conditions 4 (inr refl) tt tt;
      untouched = λ bad. absurd cc;
      stands = part;
      due = tt;
    }
page_breaks _ before after old new ready part = absurd ready

pub values_written : (w : Wish) (r : StreamRequest) (before after old new : Option (List ℕ)) → IsReady w (Stream r)
    → AppendsAll old new (lines r.seed r.count) → Serves w (Ok None) before after old new
values_written (stream seed n) r before after old new (seed_is, count_is) text =
    record {
      text = rw (seed_is, count_is) at text;
      report = refl;
      status = served (stream seed n) 0 (inl refl) tt tt;
      untouched = tt;
      stands = tt;
      due = tt;
    }
values_written _ r before after old new ready text = absurd ready

pub values_break : (w : Wish) (r : StreamRequest) (before after old new : Option (List ℕ)) → IsReady w (Stream r)
    → AppendsPart old new (lines r.seed r.count) → Serves w (Err (Interrupted Output)) before after old new
values_break (stream seed n) r before after old new (seed_is, count_is) part =
    record {
      text = tt;
      report = tt;
      status = served (stream seed n) 4 (inr refl) tt tt;
      untouched = λ bad. absurd cc;
      stands = rw (seed_is, count_is) at part;
      due = tt;
    }
values_break _ r before after old new ready part = absurd ready

-- ---- lessons

pub lessons_written : (w : Wish) (page : _) (before after old new : Option (List ℕ)) → IsReady w (Lessons page)
    → AppendsAll old new (string_bytes page) → Serves w (Ok None) before after old new
lessons_written (lessons lesson) page before after old new ready text =
    record {
      text = rw ready at text;
      report = refl;
      status = served (lessons lesson) 0 (inl refl) tt tt;
      untouched =
          tt;
      stands = tt;
      due = tt;
    }
lessons_written _ page before after old new ready text = absurd ready

pub lessons_break : (w : Wish) (page : _) (before after old new : Option (List ℕ)) → IsReady w (Lessons page)
    → AppendsPart old new (string_bytes page) → Serves w (Err (Interrupted Output)) before after old new
lessons_break (lessons lesson) page before after old new ready part =
    record {
      text = tt;
      report = tt;
      status = served (lessons lesson) 4 (inr refl) tt tt;
      untouched =
          λ bad. absurd cc;
      stands = rw ready at part;
      due = tt;
    }
lessons_break _ page before after old new ready part = absurd ready

-- ---- boards with tricks

tricks_text : (w : Wish) (job : BoardsJob) (report : Report) (r : Option Report)
    (before after old new : Option (List ℕ)) → IsReady w (Boards job) → job.tricks ≡ true
    → EndsReady job (Ok report) before after old new
    → (job.report ≡ true) × (r ≡ Some report) ⊎ (job.report ≡ false) × (r ≡ None) → Serves w (Ok r) before after old new
tricks_text (make s l true notices) job report r before after old new ready kind ends asked =
    let written = ends.ends s l true notices ready in record {
      text = (job.condition, ready.means, written.0);
      report = elim asked [
        | inl made ↦ rw made.1 (sym ready.report_is ∙ made.0, (job.condition, ready.means, written.1))
        | inr none ↦ rw none.1 (sym ready.report_is ∙ none.0)
      ];
      status = served (make s l true notices) 0 (inl refl) ready.planned (job.condition, ready.means);
      untouched = tt;
      stands = tt;
      due = tt;
    }
tricks_text (make s l false notices) job report r before after old new ready kind ends asked =
    absurd (let bad : false ≡ true = sym ready.tricks_are ∙ kind in cc)
tricks_text _ job report r before after old new ready kind ends asked = absurd ready

pub tricks_reported : (w : Wish) (job : BoardsJob) (report : Report) (before after old new : Option (List ℕ))
    → IsReady w (Boards job) → job.tricks ≡ true → EndsReady job (Ok report) before after old new → job.report ≡ true
    → Serves w (Ok (Some report)) before after old new
tricks_reported w job report before after old new ready kind ends asked =
    tricks_text w job report (Some report) before after old new ready kind ends (inl (asked, refl))

pub tricks_unreported : (w : Wish) (job : BoardsJob) (report : Report) (before after old new : Option (List ℕ))
    → IsReady w (Boards job) → job.tricks ≡ true → EndsReady job (Ok report) before after old new → job.report ≡ false
    → Serves w (Ok None) before after old new
tricks_unreported w job report before after old new ready kind ends asked =
    tricks_text w job report None before after old new ready kind ends (inr (asked, refl))

-- how it breaks off
tricks_broken : (s : Search) (l : Look) (form : Form) (c : Cause) (before after old new : Option (List ℕ)) → Means s form
    → (BreaksTold s l form c before after old new × (c ≡ Spawn → new ≡ old))
    ⊎ ((c ≡ Output) × (((line : RefusedLine) × StopsAtLine s l form line before after old new) ⊎ FailsTold s l form before after old new))
    → ((form : Form) × Means s form × BreaksTold s l form c before after old new)
    ⊎ ((c ≡ Output) × ((fault : PickFault) × EndsTold s l fault before after old new))
tricks_broken s l form c before after old new means (inl run) = inl (form, means, run.0)
tricks_broken s l form c before after old new means (inr (is, inl (line, stops))) = inr (is, (Refused line, (form, means, stops)))
tricks_broken s l form c before after old new means (inr (is, inr fails)) = inr (is, (PickInput, (form, means, fails)))

pub tricks_fail : (w : Wish) (job : BoardsJob) (f : Failure) (before after old new : Option (List ℕ))
    → IsReady w (Boards job) → job.tricks ≡ true → EndsReady job (Err f) before after old new
    → Serves w (Err f) before after old new
tricks_fail (make s l true notices) job (Interrupted Memory) before after old new ready kind ends = record {
  text = tt;
  report = tt;
  status = no_memory (make s l true notices) 5 refl;
  untouched = λ _. ends.ends s l true notices ready;
  stands = ends.ends s l true notices ready;
  due = ready.planned;
}
tricks_fail (make s l true notices) job (Interrupted Output) before after old new ready kind ends = record {
  text = tt;
  report = tt;
  status = served (make s l true notices) 4 (inr refl) ready.planned (job.condition, ready.means);
  untouched = λ bad. absurd cc;
  stands = tricks_broken s l job.condition Output before after old new ready.means (ends.ends s l true notices ready);
  due = (ready.planned, (job.condition, ready.means));
}
tricks_fail (make s l true notices) job (Interrupted Spawn) before after old new ready kind ends = record {
  text = tt;
  report = tt;
  status = interrupted (make s l true notices) Spawn ready.planned (job.condition, ready.means) tt;
  untouched = λ _. elim (ends.ends s l true notices ready) [ inl run ↦ run.1 refl | inr bad ↦ absurd (let no = bad.0 in cc) ];
  stands = tricks_broken s l job.condition Spawn before after old new ready.means (ends.ends s l true notices ready);
  due = (ready.planned, (job.condition, ready.means));
}
tricks_fail (make s l true notices) job (Interrupted (Stopped worker)) before after old new ready kind ends = record {
  text = tt;
  report = tt;
  status = interrupted (make s l true notices) (Stopped worker) ready.planned (job.condition, ready.means) tt;
  untouched = λ bad. absurd cc;
  stands = tricks_broken s l job.condition (Stopped worker) before after old new ready.means (ends.ends s l true notices ready);
  due = (ready.planned, (job.condition, ready.means));
}
tricks_fail (make s l true notices) job (Interrupted (Unclosed worker)) before after old new ready kind ends = record {
  text = tt;
  report = tt;
  status = interrupted (make s l true notices) (Unclosed worker) ready.planned (job.condition, ready.means) tt;
  untouched = λ bad. absurd cc;
  stands = tricks_broken s l job.condition (Unclosed worker) before after old new ready.means (ends.ends s l true notices ready);
  due = (ready.planned, (job.condition, ready.means));
}
tricks_fail (make s l true notices) job (Line line) before after old new ready kind ends = record {
  text = tt;
  report = tt;
  status = failed_input (make s l true notices) 7 refl ready.planned (job.condition, ready.means) refl;
  untouched = λ bad. absurd cc;
  stands = (job.condition, ready.means, ends.ends s l true notices ready);
  due = (ready.planned, (job.condition, ready.means));
}
tricks_fail (make s l true notices) job Input before after old new ready kind ends = record {
  text = tt;
  report = tt;
  status = failed_input (make s l true notices) 7 refl ready.planned (job.condition, ready.means) refl;
  untouched = λ bad. absurd cc;
  stands = (job.condition, ready.means, ends.ends s l true notices ready);
  due = (ready.planned, (job.condition, ready.means));
}
tricks_fail (make s l true notices) job _ before after old new ready kind ends = absurd (ends.ends s l true notices ready)
tricks_fail (make s l false notices) job f before after old new ready kind ends = absurd (let bad : false ≡ true = sym ready.tricks_are ∙ kind in cc)
tricks_fail _ job f before after old new ready kind ends = absurd ready

-- ---- a seed

pub drawn : {T : Type 0} (w : Wish) (value : T) (before after old new : Option (List ℕ)) → IsReady w Seed
    → EndsDraw {T = T} (Ok value) before after old new → Serves w (Ok None) before after old new
drawn draw value before after old new ready ends = record
    { text = ends; report = refl; status = served draw 0 (inl refl) tt tt; untouched = tt; stands = tt; due = tt }
drawn _ value before after old new ready ends = absurd ready

pub draw_fails : (T : Type 0) (w : Wish) (f : Failure) (before after old new : Option (List ℕ)) → IsReady w Seed
    → EndsDraw {T = T} (Err f) before after old new → Serves w (Err f) before after old new
draw_fails T draw (Interrupted Output) before after old new ready ends =
    record {
      text = tt;
      report = tt;
      status = served draw 4 (inr refl) tt tt;
      untouched = λ bad. absurd cc;
      stands =
          ends;
      due = tt;
    }
draw_fails T draw Input before after old new ready ends =
    record {
      text = tt;
      report = tt;
      status = failed_input draw 7 refl tt tt tt;
      untouched = λ bad. absurd cc;
      stands = ends;
      due = tt;
    }
draw_fails T draw EndOfInput before after old new ready ends =
    record {
      text = tt;
      report = tt;
      status = failed_input draw 7 refl tt tt tt;
      untouched = λ _. ends.0;
      stands =
          ends;
      due = tt;
    }
draw_fails T draw _ before after old new ready ends = absurd ends
draw_fails T _ f before after old new ready ends = absurd ready
