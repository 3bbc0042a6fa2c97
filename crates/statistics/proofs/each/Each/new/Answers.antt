use Rattle.std.proofs.Common.{◌∙◌, ◌++◌, ◌∷◌, [], List, ap, ap₂, All, map, subst, sym}
use Rattle.std.proofs.lemmas.List.{map-append}
use Rattle.std.proofs.lemmas.List.Elements.{All-push}
use Rattle.statistics.specs.Counting.{TitledQuestion}
use Rattle.statistics.specs.internal.Kept.{CountsOne, KeptOne}
use Rattle.statistics.proofs.each.Each.new.Goals as goal

pub loop-question-preserved : goal.loop-question-preserved
loop-question-preserved c =
    let one : KeptOne = c.in_ok-new.field-0 in
    record {
      asked = ap (λ (ones : List KeptOne). map (λ (o : KeptOne). o.asked) ones) c.in_ok-push.ensures.items
          ∙ map-append (λ (o : KeptOne). o.asked) c.loop-question.ones.items (one ∷ [])
          ∙ ap₂ (λ (asked : List TitledQuestion) (a : TitledQuestion). asked ++ a ∷ []) c.loop-question.invariant.asked c.in_ok-new.ensures.asked;
      counted = subst (λ (ones : List KeptOne). All (λ (o : KeptOne). CountsOne o []) ones) (sym c.in_ok-push.ensures.items)
          (All-push (λ (o : KeptOne). CountsOne o []) c.loop-question.ones.items one c.loop-question.invariant.counted c.in_ok-new.ensures.counted);
    }
