use Rattle.std.proofs.Common.{◌≡◌, ℕ, List, ◌++◌, ◌∙◌, ap, sym}
use Rattle.std.proofs.lemmas.List.{append_assoc}
use Rattle.notations.specs.Columns.{columns}
use Rattle.notations.specs.internal.Parts.{rest_of_line}
use Rattle.notations.proofs.LineLemmas.{whole_line}
use Rattle.notations.proofs.hands.put_suit_line.Goals as goal

grouped : (old left rest : List ℕ) → old ++ left ++ rest ≡ old ++ (left ++ rest)
grouped old left rest = simp append_assoc

pub returns-clause-text : goal.returns-clause-text
returns-clause-text c =
    let old = c.args.text.now in
    let hand = c.args.hand.now in
    let suit = c.args.suit in
    let left = c.args.left.now in
    c.put_rest.ensures.text
    ∙ ap (λ n. c.put.new.self ++ rest_of_line 18 n hand suit) (sym c.requires.plain)
    ∙ ap (λ xs. xs ++ rest_of_line 18 (columns left) hand suit) c.put.ensures.text
    ∙ grouped old left (rest_of_line 18 (columns left) hand suit)
    ∙ ap (λ xs. old ++ xs) (whole_line left hand suit)
