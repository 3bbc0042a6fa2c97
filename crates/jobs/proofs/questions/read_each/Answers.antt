use Rattle.std.proofs.Common.{◌≡◌, ◌+◌, ◌<◌, ◌++◌, ◌∷◌, ◌∙◌, ℕ, List, [], Option, None, Some, arith, ap, inl, inr}
use Rattle.std.proofs.Common.{length, get_or, option_map, subst, sym}
use Rattle.std.specs.Prelude.{option_to_list}
use Rattle.std.proofs.lemmas.List.{append-nil}
use Rattle.std.proofs.lemmas.Result.{err_from_is_err_and}
use Rattle.requests.specs.Requests.{each_question, places_of, texts_of}
use Rattle.requests.specs.declared.names.QuestionName.TheVariants.{Of}
use Rattle.jobs.specs.Counting.{AskEach}
use Rattle.jobs.specs.FirstRefusal.{AreRefused}
use Rattle.jobs.specs.declared.failure.Failure.{Failure}
use Rattle.jobs.specs.declared.failure.Failure.TheVariants.{Question}
use Rattle.jobs.proofs.EachAsked.{around, ask_push, due_after, next_place, only_push, question_in, texts_after, texts_before}
use Rattle.jobs.proofs.questions.read_each.Goals.{in-Some+in_ok-question+in_ok-keep, in_default}
use Rattle.jobs.proofs.questions.read_each.Goals as goal

pub returns-in_err-question-clause-refused : goal.returns-in_err-question-clause-refused
returns-in_err-question-clause-refused c =
    let p = err_from_is_err_and c.from_residual-in_err-question.result c.from_residual-in_err-question.ensures.1 in
    let D : Option (List ℕ) = option_map (λ t. t.now) c.args.definitions in
    let places : List (Option (List ℕ)) = places_of c.args.texts.now in
    let lt : c.loop-place.place < length places = omega (arith, c.loop-place-test.true, c.loop-place.auto.place-end) in
    let is : get_or places c.loop-place.place None ≡ Some c.in-Some.text.now = sym c.get.ensures ∙ ap (option_map (λ t. t.now)) c.in-Some.is in
    let whole = around c.loop-place.place places c.in-Some.text.now lt is in
    rw (p.1, p.2) (elim c.in_err-question.ensures.refused [
      | inl memory ↦ inl memory
      | inr due ↦ inr (subst (λ (f : Failure). AreRefused D (each_question (texts_of c.args.texts.now)) f) (sym due.1)
          (subst (λ (texts : List (List ℕ)). AreRefused D (each_question texts) (Question Of due.0)) (sym whole)
          (due_after D (texts_before c.loop-place.place places) c.loop-place.asked.items c.in-Some.text.now
          (texts_after c.loop-place.place places) due.0 c.loop-place.invariant.asks due.2)))
    ])

pub returns-in_err-question-clause-memory : goal.returns-in_err-question-clause-memory
returns-in_err-question-clause-memory c =
    let p = err_from_is_err_and c.from_residual-in_err-question.result c.from_residual-in_err-question.ensures.1 in
    let D : Option (List ℕ) = option_map (λ t. t.now) c.args.definitions in
    let places : List (Option (List ℕ)) = places_of c.args.texts.now in
    let lt : c.loop-place.place < length places = omega (arith, c.loop-place-test.true, c.loop-place.auto.place-end) in
    let is : get_or places c.loop-place.place None ≡ Some c.in-Some.text.now = sym c.get.ensures ∙ ap (option_map (λ t. t.now)) c.in-Some.is in
    let whole = around c.loop-place.place places c.in-Some.text.now lt is in
    rw (p.1, p.2) (λ b each.
    let q = question_in D (texts_before c.loop-place.place places) c.in-Some.text.now
    (texts_after c.loop-place.place places) b (subst (λ (texts : List (List ℕ)). AskEach D texts b) whole each) in
    c.in_err-question.ensures.memory q.0 q.1)

pub loop-place-preserved : goal.loop-place-preserved
loop-place-preserved c =
    let D : Option (List ℕ) = option_map (λ t. t.now) c.args.definitions in
    let places : List (Option (List ℕ)) = places_of c.args.texts.now in
    let n : ℕ = c.loop-place.place in
    let lt : n < length places = omega (arith, c.loop-place-test.true, c.loop-place.auto.place-end) in
    elim c.match-get.branch [
      | in-Some+in_ok-question+in_ok-keep w ↦
          let text : List ℕ = w.in-Some.text.now in
          let is : get_or places n None ≡ Some text = sym c.get.ensures ∙ ap (option_map (λ t. t.now)) w.in-Some.is in
          let more : texts_before (n + 1) places ≡ texts_before n places ++ text ∷ [] = next_place n places lt
          ∙ ap (λ (o : Option (List ℕ)). texts_before n places ++ option_to_list o) is in
          let kept : c.match-get.asked.items ≡ c.loop-place.asked.items ++ w.in_ok-question.question ∷ [] =
          ap (λ v. v.items) w.asked-is ∙ w.in_ok-keep.ensures in
          record {
            asks = subst (λ (texts : List (List ℕ)). AskEach D texts c.match-get.asked.items) (sym more)
                (subst (AskEach D (texts_before n places ++ text ∷ [])) (sym kept)
                (ask_push D (texts_before n places) c.loop-place.asked.items text w.in_ok-question.question
                c.loop-place.invariant.asks w.in_ok-question.ensures.asked));
            only = λ b each. only_push D (texts_before n places) c.loop-place.asked.items text
                w.in_ok-question.question c.loop-place.invariant.only w.in_ok-question.ensures.only b
                (subst (λ (texts : List (List ℕ)). AskEach D texts b) more each) ∙ sym kept;
          }
      | in_default w ↦
          let is : get_or places n None ≡ None = sym c.get.ensures ∙ ap (option_map (λ t. t.now)) w.in_default.is in
          let same : texts_before (n + 1) places ≡ texts_before n places = next_place n places lt
          ∙ ap (λ (o : Option (List ℕ)). texts_before n places ++ option_to_list o) is
          ∙ append-nil (texts_before n places) in
          let kept = ap (λ v. v.items) w.asked-is in
          record {
            asks = subst (λ (texts : List (List ℕ)). AskEach D texts c.match-get.asked.items) (sym same)
                (subst (AskEach D (texts_before n places)) (sym kept) c.loop-place.invariant.asks);
            only = λ b each. c.loop-place.invariant.only b (subst (λ (texts : List (List ℕ)). AskEach D texts b) same each) ∙ sym kept;
          }
    ]
