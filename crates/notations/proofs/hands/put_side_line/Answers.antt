use Rattle.std.proofs.Common.{◌≡◌, ℕ, List, ◌++◌, ◌∙◌, ap}
use Rattle.std.proofs.lemmas.List.{append_assoc}
use Rattle.notations.specs.Columns.{columns}
use Rattle.notations.specs.internal.Parts.{rest_of_line, shown_suit}
use Rattle.notations.proofs.LineLemmas.{whole_sides}
use Rattle.notations.proofs.hands.put_side_line.Goals as goal

grouped : (old left rest : List ℕ) → old ++ left ++ rest ≡ old ++ (left ++ rest)
grouped old left rest = simp append_assoc

pub returns-clause-text : goal.returns-clause-text
returns-clause-text c =
    let old = c.args.text.now in
    let east = c.args.east.now in
    let suit = c.args.suit in
    let left : List ℕ = shown_suit c.args.west.now suit in
    c.put_rest.ensures.text
    ∙ ap (λ n. c.put_west-used.new.text ++ rest_of_line 36 n east suit) c.put_west-used.ensures.columns
    ∙ ap (λ xs. xs ++ rest_of_line 36 (columns left) east suit) c.put_west-used.ensures.text
    ∙ grouped old left (rest_of_line 36 (columns left) east suit)
    ∙ ap (λ xs. old ++ xs) (whole_sides c.args.west.now east suit)
