use Rattle.std.proofs.Common.{arith, subst}
use Rattle.conditions.specs.Form.{amount_of}
use Rattle.conditions.specs.Questions.{IsAskable, asks_value}
use Rattle.conditions.specs.internal.Asked.{question_of}
use Rattle.conditions.proofs.FewRows.{few_rows}
use Rattle.conditions.proofs.question.Question.rows.Goals as goal

pub returns-in-Value-clause-few : goal.returns-in-Value-clause-few
returns-in-Value-clause-few c =
    omega (
      arith,
      c.greatest.ensures.value,
      few_rows (asks_value (amount_of c.in-Value.value)) (subst (λ a. IsAskable (question_of a)) c.in-Value.is c.self.invariant),
    )
