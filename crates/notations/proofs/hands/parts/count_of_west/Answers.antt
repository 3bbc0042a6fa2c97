use Rattle.std.proofs.Common.{◌++◌, ◌∙◌, ap, arith}
use Rattle.notations.specs.Columns.{spaces, two_columns}
use Rattle.notations.proofs.Pairs.{pair}
use Rattle.notations.proofs.hands.parts.count_of_west.Goals as goal

pub returns-clause-value : goal.returns-clause-value
returns-clause-value c =
    ap (λ xs. spaces 2 ++ xs) (pair c.two_columns.result (omega arith) ∙ c.two_columns.ensures.value ∙ ap two_columns c.points.ensures.value)
