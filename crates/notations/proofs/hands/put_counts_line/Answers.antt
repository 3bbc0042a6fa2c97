use Rattle.std.proofs.Common.{◌≡◌, ℕ, ◌-◌, List, ◌++◌, ◌∙◌, ap, arith}
use Rattle.std.proofs.lemmas.List.{append_assoc}
use Rattle.cards.specs.declared.suit.Suit.TheVariants.{Diamonds}
use Rattle.notations.specs.Columns.{columns}
use Rattle.notations.specs.Records.{two_counts}
use Rattle.notations.specs.internal.Parts.{rest_of_line}
use Rattle.notations.proofs.LineLemmas.{whole_line}
use Rattle.notations.proofs.hands.put_counts_line.Goals as goal

grouped : (old left rest : List ℕ) → old ++ left ++ rest ≡ old ++ (left ++ rest)
grouped old left rest = simp append_assoc

pub returns-clause-text : goal.returns-clause-text
returns-clause-text c =
    let old = c.args.text.now in
    let south = c.args.south.now in
    let left : List ℕ = two_counts c.args.west.now c.args.east.now in
    let used : c.len.result - c.len-start.result ≡ columns left =
    omega (arith, c.len.ensures, c.len-start.ensures, c.put_two_counts.ensures.columns) in
    c.put_rest.ensures.text
    ∙ ap (λ n. c.put_two_counts.new.text ++ rest_of_line 18 n south Diamonds) used
    ∙ ap (λ xs. xs ++ rest_of_line 18 (columns left) south Diamonds) c.put_two_counts.ensures.text
    ∙ grouped old left (rest_of_line 18 (columns left) south Diamonds)
    ∙ ap (λ xs. old ++ xs) (whole_line left south Diamonds)
