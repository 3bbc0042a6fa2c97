-- Which failure is due first.
use Rattle.std.proofs.Common.{◌≡◌, ◌≢◌, ◌⊎◌, ◌<◌, ◌+◌, ◌^◌, ◌||◌, ◌==◌, ◌∙◌, ◌++◌, ℕ, zero, suc, Bool, true, false}
use Rattle.std.proofs.Common.{List, [], ◌∷◌, Option, None, Some, refl, sym, ap, inl, inr, nat_lt, option_map, arith}
use Rattle.std.proofs.Common.{eqb-true, if◌then◌else◌}
use Rattle.std.specs.Borrow.{Bor}
use Rattle.std.proofs.lemmas.Bool.{eqb-false, ltb-true, ltb-false}
use Rattle.cond_lang.specs.After.{IsDueAlone}
use Rattle.cond_lang.specs.Form.{Form}
use Rattle.conditions.specs.declared.error.CondError.{CondError}
use Rattle.conditions.specs.declared.error.CondError.TheVariants.{TooLong, Byte, Word, Number, Syntax, TooManyParts, Memory as no_memory}
use Rattle.boards.specs.declared.cause.Cause.{Cause}
use Rattle.boards.specs.declared.cause.Cause.TheVariants as cause
use Rattle.boards.specs.Refusals.{refusal_of}
use Rattle.boards.specs.declared.plan.PlanError.{PlanError}
use Rattle.boards.specs.declared.plan.PlanError.TheVariants.{Range, Workers, Capacity, Boards, FirstBoard}
use Rattle.jobs.specs.Failures.{definitions_failure, failure_of, is_refusal, status_of}
use Rattle.jobs.specs.FirstRefusal.{AreDue, AreRefused, IsCountDue, IsDueFor, IsDueRead, IsFirstHand}
use Rattle.jobs.specs.FirstRefusal.{IsFirstOf, IsMakeDue, IsPickDue, IsPlanDue, IsShowDue, IsTextDue, IsTricksDue}
use Rattle.jobs.specs.FirstRefusal.{Meets, of_labels, of_numbers}
use Rattle.requests.specs.Defaults.{candidates_of, workers_in}
use Rattle.jobs.specs.Makings.{HasCondition, HasLabels, HasNumbers, IsPlanned, Means}
use Rattle.requests.specs.Requests.{Look, Questions, Search, Wish, count, make, no_search, numbers_look, pick, plain_search, show}
use Rattle.jobs.specs.Jobs.{IsRefused}
use Rattle.jobs.specs.Statuses.{IsStatusOf, parts_of}
use Rattle.jobs.proofs.Statuses.{no_memory as out_of_memory, refused_meaning, refused_plan}
use Rattle.requests.specs.declared.request.Notices.{Notices}
use Rattle.requests.specs.declared.when.When.{When}
use Rattle.requests.specs.PredealtHands.{GivenHands}
use Rattle.jobs.specs.declared.failure.Failure.{Failure}
use Rattle.jobs.specs.declared.failure.Failure.TheVariants.{CommandLine, Plan, Label, Hand, Definitions, Condition}
use Rattle.jobs.specs.declared.failure.Failure.TheVariants.{Question, Cells, Interrupted, Line, Record, Input}
use Rattle.jobs.specs.declared.failure.Failure.TheVariants.{EndOfInput}
use Rattle.requests.specs.declared.names.LabelName.TheVariants.{Event, Site, Date}
use Rattle.requests.specs.declared.names.QuestionName.TheVariants.{Of, By}
use Rattle.jobs.specs.Counting.{IsAsked}
use Rattle.jobs.specs.internal.Conditions.{IsConditionFailure, IsDefinitionsFailure, IsTextFailure}
use Rattle.jobs.specs.internal.QuestionFailures.{AreFailure}
use Rattle.statistics.specs.Counting.{Subject}
use Rattle.boards.specs.declared.style.TableStyle.{TableStyle}

-- ---- the numbers

positive : (n : ℕ) → (n ≡ 0 → ⊥) → 0 < n
positive zero h = absurd (h refl)
positive (suc n) h = omega arith

-- what a plan without a limit asks of its numbers
abbrev pub HasRun : Search → Look → Type 0
HasRun s l = Meets s l (Plan Range) × Meets s l (Plan Workers) × Meets s l (Plan Capacity)

pub plan_due : (s : Search) (l : Look) (e : PlanError)
    → e ≡ refusal_of s.first (candidates_of s) (workers_in s.workers) → (HasRun s l → ⊥)
    → IsFirstOf of_numbers s l (Plan e)
plan_due s l e is not_so = rw is (at_range (nat_lt (2 ^ 40) (s.first + candidates_of s)) refl)
  where
    at_capacity : Meets s l (Plan Range) → Meets s l (Plan Workers) → IsFirstOf of_numbers s l (Plan Capacity)
    at_capacity range workers = inr (range, inr (workers, inl (refl, λ lane. not_so (range, workers, lane))))

    at_workers : Meets s l (Plan Range) → (b c : Bool) → (workers_in s.workers == 0) ≡ b → nat_lt 16 (workers_in s.workers) ≡ c
        → IsFirstOf of_numbers s l (Plan (if b || c then Workers else Capacity))
    at_workers range true c none many =
        let is_zero = eqb-true (workers_in s.workers) 0 none in
        inr (range, inl (refl, λ workers. omega (arith, workers.0, is_zero)))
    at_workers range false true none many =
        let more = ltb-true 16 (workers_in s.workers) many in
        inr (range, inl (refl, λ workers. omega (arith, workers.1, more)))
    at_workers range false false none many =
        at_capacity range (positive (workers_in s.workers) (eqb-false (workers_in s.workers) 0 none), ltb-false 16 (workers_in s.workers) many)

    at_range : (b : Bool) → nat_lt (2 ^ 40) (s.first + candidates_of s) ≡ b
        → IsFirstOf of_numbers s l (Plan (if b then Range else
        (if (workers_in s.workers) == 0 || nat_lt 16 (workers_in s.workers) then Workers else Capacity)))
    at_range true e =
        let more = ltb-true (2 ^ 40) (s.first + candidates_of s) e in
        inl (refl, λ range. omega (arith, range, more))
    at_range false e =
        at_workers (ltb-false (2 ^ 40) (s.first + candidates_of s) e) (workers_in s.workers == 0) (nat_lt 16 (workers_in s.workers)) refl refl

pub boards_due : (s : Search) (l : Look) (most : ℕ) → HasRun s l → s.boards ≡ Some most → most ≡ 0 → IsFirstOf of_numbers s l (Plan Boards)
boards_due s l most run given none =
    inr (run.0, inr (run.1, inr (run.2, inl (refl, λ sound. sound (given ∙ ap (λ (n : ℕ). Some n) none)))))

pub first_board_due : (s : Search) (l : Look) → HasRun s l → (s.boards ≡ Some 0 → ⊥)
    → (Meets s l (Plan FirstBoard) → ⊥) → IsFirstOf of_numbers s l (Plan FirstBoard)
first_board_due s l run boards not_so =
    inr (run.0, inr (run.1, inr (run.2, inr (boards, inl (refl, not_so)))))

-- each way to refuse a number
pub ruleset numbers = (plan_due, boards_due, first_board_due)

-- ---- the plan

before_labels : (xs ys : List Failure) (s : Search) (l : Look) (f : Failure) → IsFirstOf xs s l f → IsFirstOf (xs ++ ys) s l f
before_labels [] ys s l f h = absurd h
before_labels (x ∷ xs) ys s l f (inl h) = inl h
before_labels (x ∷ xs) ys s l f (inr h) = inr (h.0, before_labels xs ys s l f h.1)

pub numbers_due : (s : Search) (l : Look) (e : PlanError) → IsFirstOf of_numbers s l (Plan e) → IsPlanDue s l (Plan e)
numbers_due s l e h = before_labels of_numbers of_labels s l (Plan e) h

after_numbers : (s : Search) (l : Look) (f : Failure) → HasNumbers s l → IsFirstOf of_labels s l f → IsFirstOf (of_numbers ++ of_labels) s l f
after_numbers s l f n h = inr (n.candidates, inr (n.workers, inr (n.lane, inr (n.boards, inr (n.first_board, h)))))

pub labels_due : (s : Search) (l : Look) (f : Failure) → HasNumbers s l → IsFirstOf of_labels s l f → IsPlanDue s l f
labels_due s l f n (inl h) = rw h.0 (after_numbers s l (Label Event) n (inl (refl, h.1)))
labels_due s l f n (inr (event, inl h)) = rw h.0 (after_numbers s l (Label Site) n (inr (event, inl (refl, h.1))))
labels_due s l f n (inr (event, inr (site, inl h))) = rw h.0 (after_numbers s l (Label Date) n (inr (event, inr (site, inl (refl, h.1)))))
labels_due s l f n (inr (event, inr (site, inr h))) = absurd h.1

-- ---- the hands

pub hands_due : (s : Search) (l : Look) (f : Failure) → HasNumbers s l → HasLabels l → IsFirstHand s f → IsPlanDue s l f
hands_due s l (Hand seat) n t h = (n, t, h)
hands_due s l x n t h = absurd h

-- each way to refuse a plan
pub ruleset plans = (numbers_due, labels_due, hands_due)

-- ---- the condition

pub unread : (D : Option (List ℕ)) (o : Option (Bor (List ℕ))) (text : Bor (List ℕ)) (e : CondError) → o ≡ Some text
    → IsDueRead D text.now e → IsTextFailure D (option_map (λ s. s.now) o) (failure_of e)
unread D o text e given due = by_error e due
  where
    is_given : option_map (λ s. s.now) o ≡ Some text.now
    is_given = ap (option_map (λ s. s.now)) given

    because : (e : CondError) → IsDueRead D text.now e → e ≢ no_memory → IsTextDue D (option_map (λ s. s.now) o) e
    because e due refused = record { text = text.now; is_given = is_given; due = due; refused = refused }

    by_error : (e : CondError) → IsDueRead D text.now e → IsTextFailure D (option_map (λ s. s.now) o) (failure_of e)
    by_error TooLong due = inr (TooLong, refl, because TooLong due (λ bad. cc))
    by_error (Byte at) due = inr (Byte at, refl, because (Byte at) due (λ bad. cc))
    by_error (Word at) due = inr (Word at, refl, because (Word at) due (λ bad. cc))
    by_error (Number at) due = inr (Number at, refl, because (Number at) due (λ bad. cc))
    by_error (Syntax at) due = inr (Syntax at, refl, because (Syntax at) due (λ bad. cc))
    by_error TooManyParts due = inr (TooManyParts, refl, because TooManyParts due (λ bad. cc))
    by_error no_memory due = inl refl

-- the same of definitions
pub unread_definitions : (o : Option (Bor (List ℕ))) (text : Bor (List ℕ)) (bytes : List ℕ) (e : CondError) → o ≡ Some text → bytes ≡ text.now
    → IsDueAlone bytes e → IsDefinitionsFailure (option_map (λ s. s.now) o) (definitions_failure e)
unread_definitions o text bytes e given same due = by_error e due
  where
    is_given : option_map (λ s. s.now) o ≡ Some bytes
    is_given = ap (option_map (λ s. s.now)) given ∙ ap (λ (t : List ℕ). Some t) (sym same)

    because : (e : CondError) → IsDueAlone bytes e → e ≢ no_memory → AreDue (option_map (λ s. s.now) o) e
    because e due refused = record { text = bytes; is_given = is_given; due = due; refused = refused }

    by_error : (e : CondError) → IsDueAlone bytes e → IsDefinitionsFailure (option_map (λ s. s.now) o) (definitions_failure e)
    by_error TooLong due = inr (TooLong, refl, because TooLong due (λ bad. cc))
    by_error (Byte at) due = inr (Byte at, refl, because (Byte at) due (λ bad. cc))
    by_error (Word at) due = inr (Word at, refl, because (Word at) due (λ bad. cc))
    by_error (Number at) due = inr (Number at, refl, because (Number at) due (λ bad. cc))
    by_error (Syntax at) due = inr (Syntax at, refl, because (Syntax at) due (λ bad. cc))
    by_error TooManyParts due = absurd due
    by_error no_memory due = inl refl

-- the definitions or the condition are refused
pub condition_due : (s : Search) (l : Look) (f : Failure) → IsPlanned s l → IsConditionFailure s f → IsMakeDue s l f
condition_due s l f plan (inl (inl memory)) = rw memory plan
condition_due s l f plan (inl (inr (error, is, due))) = rw is (plan, due)
condition_due s l f plan (inr (given, inl memory)) = rw memory plan
condition_due s l f plan (inr (given, inr (error, is, due))) = rw is (plan, given, due)

-- memory ran out, or a text is refused
condition_status : (s : Search) (f : Failure) → IsConditionFailure s f → (status_of f ≡ 5) ⊎ (status_of f ≡ 3)
condition_status s f (inl (inl memory)) = rw memory (inl refl)
condition_status s f (inl (inr (error, is, due))) = rw is (inr refl)
condition_status s f (inr (given, inl memory)) = rw memory (inl refl)
condition_status s f (inr (given, inr (error, is, due))) = rw is (inr refl)

-- before anything was done
condition_refusal : (s : Search) (f : Failure) → IsConditionFailure s f → is_refusal f ≡ true
condition_refusal s f (inl (inl memory)) = rw memory refl
condition_refusal s f (inl (inr (error, is, due))) = rw is refl
condition_refusal s f (inr (given, inl memory)) = rw memory refl
condition_refusal s f (inr (given, inr (error, is, due))) = rw is refl

-- ---- the run

pub run_due : (s : Search) (l : Look) (c : Cause) → IsPlanned s l → (form : Form) → Means s form → IsMakeDue s l (Interrupted c)
run_due s l cause.Memory plan form means = plan
run_due s l _ plan form means = (plan, (form, means))

-- the output fails after all was done
pub output_due : (w : Wish) → IsStatusOf w 0 → IsDueFor w (Interrupted cause.Output)
output_due (make s l false notices) status = status.accepted (inl refl)
output_due (make s l true notices) status = status.accepted (inl refl)
output_due (count s questions style notices) status = let all = status.accepted (inl refl) in (all.0, all.1.0, all.1.1)
output_due (pick seed hands l tricks hints) status = (status.accepted (inl refl)).0
output_due (show l hints) status = (status.accepted (inl refl)).0
output_due _ status = tt

-- a refused plan is due for a `make` and for a `pick`
pub make_plan_due : (s : Search) (l : Look) (f : Failure) → IsPlanDue s l f → IsMakeDue s l f
make_plan_due s l (CommandLine text) h = h
make_plan_due s l (Plan error) h = h
make_plan_due s l (Label name) h = h
make_plan_due s l (Hand seat) h = h
make_plan_due s l _ h = absurd h

-- what is due before the input is read is due with tricks too
tricks_due : (s : Search) (l : Look) (f : Failure) → is_refusal f ≡ true → IsMakeDue s l f → IsTricksDue s l f
tricks_due s l (Line line) before h = absurd cc
tricks_due s l Input before h = absurd cc
tricks_due s l _ before h = h

pub pick_plan_due : (s : Search) (l : Look) (f : Failure) → IsPlanDue s l f → IsPickDue s l f
pick_plan_due s l (CommandLine text) h = h
pick_plan_due s l (Plan error) h = h
pick_plan_due s l (Label name) h = h
pick_plan_due s l (Hand seat) h = h
pick_plan_due s l _ h = absurd h

pub count_plan_due : (s : Search) (q : Questions) (f : Failure) → IsPlanDue s numbers_look f → IsCountDue s q f
count_plan_due s q (CommandLine text) h = h
count_plan_due s q (Plan error) h = h
count_plan_due s q (Label name) h = h
count_plan_due s q (Hand seat) h = h
count_plan_due s q _ h = absurd h

-- a condition or a question that is refused is due for a `count`
count_condition_due : (s : Search) (q : Questions) (f : Failure) → IsPlanned s numbers_look → IsConditionFailure s f → IsCountDue s q f
count_condition_due s q f plan (inl (inl memory)) = rw memory plan
count_condition_due s q f plan (inl (inr (error, is, due))) = rw is (plan, due)
count_condition_due s q f plan (inr (given, inl memory)) = rw memory plan
count_condition_due s q f plan (inr (given, inr (error, is, due))) = rw is (plan, given, due)

questions_due : (s : Search) (q : Questions) (f : Failure) → IsPlanned s numbers_look → HasCondition s → AreRefused s.let_text q f → IsCountDue s q f
questions_due s q (Question Of error) plan condition h = (plan, condition, h)
questions_due s q (Question By error) plan condition h = (plan, condition, h)
questions_due s q (Cells name) plan condition h = (plan, condition, h)
questions_due s q _ plan condition h = absurd h

questions_status : (D : Option (List ℕ)) (q : Questions) (f : Failure) → AreRefused D q f → status_of f ≡ 3
questions_status D q (Question Of error) h = refl
questions_status D q (Question By error) h = refl
questions_status D q (Cells name) h = refl
questions_status D q _ h = absurd h

questions_refusal : (D : Option (List ℕ)) (q : Questions) (f : Failure) → AreRefused D q f → is_refusal f ≡ true
questions_refusal D q (Question Of error) h = refl
questions_refusal D q (Question By error) h = refl
questions_refusal D q (Cells name) h = refl
questions_refusal D q _ h = absurd h

-- a `count` that was interrupted
pub count_run_due : (s : Search) (q : Questions) (c : Cause) → IsPlanned s numbers_look → HasCondition s
    → (subject : Subject) → IsAsked s.let_text q subject → IsCountDue s q (Interrupted c)
count_run_due s q cause.Memory plan condition subject asked = plan
count_run_due s q _ plan condition subject asked = (plan, condition, (subject, asked))

-- the first of some refusals is due only where one of them is
abbrev MeetsAll : List Failure → Search → Look → Type 0
MeetsAll [] s l = Unit {0}
MeetsAll (refusal ∷ rest) s l = Meets s l refusal × MeetsAll rest s l

one_unmet : (xs : List Failure) (s : Search) (l : Look) (f : Failure) → IsFirstOf xs s l f → MeetsAll xs s l → ⊥
one_unmet [] s l f h all = h
one_unmet (x ∷ xs) s l f (inl h) all = h.1 all.0
one_unmet (x ∷ xs) s l f (inr h) all = one_unmet xs s l f h.1 all.1

labels_met : (s : Search) (l : Look) → HasLabels l → MeetsAll of_labels s l
labels_met s l t = (t.event, (t.site, (t.date, tt)))

plan_met : (s : Search) (l : Look) → IsPlanned s l → MeetsAll (of_numbers ++ of_labels) s l
plan_met s l p =
    let n = p.numbers in
    (n.candidates, (n.workers, (n.lane, (n.boards, (n.first_board, labels_met s l p.labels)))))

-- there is no plan
unplanned : (s : Search) (l : Look) (f : Failure) → IsPlanDue s l f → (status_of f ≡ 2) × (IsPlanned s l → ⊥)
unplanned s l (Plan error) h = (refl, λ p. one_unmet (of_numbers ++ of_labels) s l (Plan error) h (plan_met s l p))
unplanned s l (Label name) h = (refl, λ p. one_unmet (of_numbers ++ of_labels) s l (Label name) h (plan_met s l p))
unplanned s l (Hand seat) (n, t, first) = (refl, λ p. let bad : None ≡ Some seat = sym p.hands ∙ first in cc)
unplanned s l _ h = absurd h

-- nothing was done before it
pub plan_refusal : (s : Search) (l : Look) (f : Failure) → IsPlanDue s l f → is_refusal f ≡ true
plan_refusal s l (CommandLine text) h = refl
plan_refusal s l (Plan error) h = refl
plan_refusal s l (Label name) h = refl
plan_refusal s l (Hand seat) h = refl
plan_refusal s l (Definitions error) h = refl
plan_refusal s l (Condition error) h = refl
plan_refusal s l (Question name error) h = refl
plan_refusal s l (Cells name) h = refl
plan_refusal s l _ h = absurd h

-- ---- before anything was done

tricks_status : (s : Search) (l : Look) (notices : Notices) (n : ℕ) → IsStatusOf (make s l false notices) n
    → (n ≡ 7 → ⊥) → IsStatusOf (make s l true notices) n
tricks_status s l notices n h other = record {
  accepted = h.accepted;
  unplanned = h.unplanned;
  meaningless = h.meaningless;
  threads = h.threads;
  input = λ e. absurd (other e);
}

refusal_status : (f : Failure) → is_refusal f ≡ true → status_of f ≡ 7 → ⊥
refusal_status (Line line) before h = cc
refusal_status (Record line) before h = cc
refusal_status Input before h = cc
refusal_status EndOfInput before h = cc
refusal_status (Interrupted cause.Memory) before h = omega (arith, h)
refusal_status (Interrupted _) before h = cc
refusal_status _ before h = omega (arith, h)

-- what refuses a `make` refuses it with tricks too
either_way : (s : Search) (l : Look) (tricks : Bool) (notices : Notices) (f : Failure)
    → IsRefused (make s l false notices) f → IsRefused (make s l tricks notices) f
either_way s l false notices f h = h
either_way s l true notices f h = record {
  due = tricks_due s l f h.nothing_done h.due;
  status = tricks_status s l notices (status_of f) h.status (refusal_status f h.nothing_done);
  nothing_done = h.nothing_done;
}

pub make_refused : (s : Search) (l : Look) (tricks : Bool) (notices : Notices) (f : Failure)
    → IsPlanDue s l f → IsRefused (make s l tricks notices) f
make_refused s l tricks notices f due =
    let no_plan = unplanned s l f due in either_way s l tricks notices f (record {
      due = make_plan_due s l f due;
      status = refused_plan (make s l false notices) (status_of f) no_plan.0 no_plan.1;
      nothing_done = plan_refusal s l f due;
    })

pub pick_refused : (seed : ℕ) (hands : GivenHands) (l : Look) (tricks : Bool) (hints : When) (f : Failure)
    → IsPlanDue (no_search seed hands) l f → IsRefused (pick seed hands l tricks hints) f
pick_refused seed hands l tricks hints f due =
    let no_plan = unplanned (no_search seed hands) l f due in record {
      due = pick_plan_due (no_search seed hands) l f due;
      status = refused_plan (pick seed hands l tricks hints) (status_of f) no_plan.0 no_plan.1;
      nothing_done = plan_refusal (no_search seed hands) l f due;
    }

-- of the labels alone
show_labels_due : (l : Look) (f : Failure) → IsFirstOf of_labels (plain_search 0) l f
    → IsShowDue l f × (is_refusal f ≡ true) × (status_of f ≡ 2)
show_labels_due l f (inl h) = rw h.0 (inl (refl, h.1), refl, refl)
show_labels_due l f (inr (event, inl h)) = rw h.0 (inr (event, inl (refl, h.1)), refl, refl)
show_labels_due l f (inr (event, inr (site, inl h))) = rw h.0 (inr (event, inr (site, inl (refl, h.1))), refl, refl)
show_labels_due l f (inr (event, inr (site, inr h))) = absurd h.1

pub show_refused : (l : Look) (hints : When) (f : Failure) → IsFirstOf of_labels (plain_search 0) l f → IsRefused (show l hints) f
show_refused l hints f due =
    let shown = show_labels_due l f due in record {
      due = shown.0;
      status = refused_plan (show l hints) (status_of f) shown.2
          (λ t. one_unmet of_labels (plain_search 0) l f due (labels_met (plain_search 0) l t));
      nothing_done = shown.1;
    }

pub count_refused : (s : Search) (q : Questions) (style : TableStyle) (notices : Notices) (f : Failure)
    → IsPlanDue s numbers_look f → IsRefused (count s q style notices) f
count_refused s q style notices f due =
    let no_plan = unplanned s numbers_look f due in record {
      due = count_plan_due s q f due;
      status = refused_plan (count s q style notices) (status_of f) no_plan.0 no_plan.1;
      nothing_done = plan_refusal s numbers_look f due;
    }

-- the status of what is refused after the plan
refused_later : (w : Wish) (f : Failure) → (status_of f ≡ 5) ⊎ (status_of f ≡ 3) → (parts_of w).plan
    → ((parts_of w).meaning → status_of f ≡ 5) → IsStatusOf w (status_of f)
refused_later w f (inl is) plan memory = out_of_memory w (status_of f) is
refused_later w f (inr is) plan memory =
    refused_meaning w (status_of f) is plan (λ meaning. let five : status_of f ≡ 5 = memory meaning in omega (arith, is, five))

pub count_condition_refused : (s : Search) (q : Questions) (style : TableStyle) (notices : Notices) (f : Failure)
    → IsPlanned s numbers_look → ((form : Form) → Means s form → status_of f ≡ 5) → IsConditionFailure s f
    → IsRefused (count s q style notices) f
count_condition_refused s q style notices f plan memory due = record {
  due = count_condition_due s q f plan due;
  status = refused_later (count s q style notices) f (condition_status s f due) plan (λ meaning. memory meaning.0.0 meaning.0.1);
  nothing_done = condition_refusal s f due;
}

pub questions_refused : (s : Search) (q : Questions) (style : TableStyle) (notices : Notices) (f : Failure)
    → IsPlanned s numbers_look → (form : Form) → Means s form
    → ((subject : Subject) → IsAsked s.let_text q subject → status_of f ≡ 5)
    → AreFailure s.let_text q f → IsRefused (count s q style notices) f
questions_refused s q style notices f plan form means memory due = record {
  due = by_failure due;
  status = refused_later (count s q style notices) f (status due) plan (λ meaning. memory meaning.1.0 meaning.1.1);
  nothing_done = refusal due;
}
  where
    status : AreFailure s.let_text q f → (status_of f ≡ 5) ⊎ (status_of f ≡ 3)
    status (inl memory) = rw memory (inl refl)
    status (inr refused) = inr (questions_status s.let_text q f refused)

    by_failure : AreFailure s.let_text q f → IsCountDue s q f
    by_failure (inl memory) = rw memory plan
    by_failure (inr refused) = questions_due s q f plan (form, means) refused

    refusal : AreFailure s.let_text q f → is_refusal f ≡ true
    refusal (inl memory) = rw memory refl
    refusal (inr refused) = questions_refusal s.let_text q f refused

pub meaning_refused : (s : Search) (l : Look) (tricks : Bool) (notices : Notices) (f : Failure) → IsPlanned s l
    → ((form : Form) → Means s form → status_of f ≡ 5) → IsConditionFailure s f → IsRefused (make s l tricks notices) f
meaning_refused s l tricks notices f plan memory due = either_way s l tricks notices f (record {
  due = condition_due s l f plan due;
  status = refused_later (make s l false notices) f (condition_status s f due) plan (λ meaning. memory meaning.0 meaning.1);
  nothing_done = condition_refusal s f due;
})
