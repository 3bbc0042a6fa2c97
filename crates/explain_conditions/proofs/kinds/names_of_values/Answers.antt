use Rattle.std.proofs.Common.{◌≡◌, Bool, List, length, arith}
use Rattle.std.proofs.lemmas.List.{length-append}
use Rattle.explain_conditions.specs.Asked.{IsOfValue}
use Rattle.explain_conditions.proofs.KindLemmas.{one_answer_behind}
use Rattle.explain_conditions.proofs.kinds.names_of_values.Goals as goal

pub loop-number-preserved : goal.loop-number-preserved
loop-number-preserved c =
    let before : List Bool = c.loop-number.values.items in
    let many : length before ≡ c.loop-number.number = c.loop-number.invariant.0 in
    let T = c.args.beginning.now in
    let here : IsOfValue T (length before) c.unwrap_or.result = (c.in_ok-told.told, rw many c.in_ok-told.ensures.told, c.unwrap_or.ensures) in
    rw c.push.ensures.items (
      rw length-append (omega (arith, many)),
      λ n l. one_answer_behind before c.unwrap_or.result (IsOfValue T)
          (λ k j. c.loop-number.invariant.1 k (omega (arith, j, many))) here n (omega (arith, l, many)),
    )
