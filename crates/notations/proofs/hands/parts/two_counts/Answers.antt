use Rattle.std.proofs.Common.{ℕ, List, [], ◌∷◌, ◌++◌, ◌∙◌, get_or, ap, arith}
use Rattle.cards.specs.Hands.{points_of}
use Rattle.notations.specs.Columns.{spaces, two_columns}
use Rattle.notations.proofs.Pairs.{pair}
use Rattle.notations.proofs.hands.parts.two_counts.Goals as goal

pub returns-clause-value : goal.returns-clause-value
returns-clause-value c =
    let west = c.two_columns.result in
    let east = c.two_columns-2.result in
    let both : List ℕ → List ℕ → List ℕ = λ a b. spaces 2 ++ a ++ spaces 6 ++ b in
    ap (λ a. both a (get_or east 0 0 ∷ get_or east 1 0 ∷ []))
    (pair west (omega arith) ∙ c.two_columns.ensures.value ∙ ap two_columns c.points.ensures.value)
    ∙ ap (both (two_columns (points_of c.args.west.now)))
    (pair east (omega arith) ∙ c.two_columns-2.ensures.value ∙ ap two_columns c.points-2.ensures.value)
