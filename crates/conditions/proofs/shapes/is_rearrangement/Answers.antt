use Rattle.std.proofs.Common.{◌≡◌, ◌==◌, ◌&&◌, ℕ, count_by, List, Bool, true, false, sym, ap, ◌∙◌}
use Rattle.std.specs.List.{list_all}
use Rattle.std.proofs.lemmas.List.Folds.{list_all-append}
use Rattle.cards.specs.Hands.{is_rearrangement}
use Rattle.cards.proofs.Rearranging.{rearrangement_by_counts}
use Rattle.conditions.proofs.shapes.is_rearrangement.Goals as goal

-- whether each of the numbers stands as often in xs as in ys
abbrev as_often : List ℕ → List ℕ → List ℕ → Bool
as_often xs ys numbers = list_all (λ x. count_by (λ y. y == x) xs == count_by (λ y. y == x) ys) numbers

both_ways : (xs ys : List ℕ) (b : Bool) → as_often xs ys xs ≡ b → is_rearrangement xs ys ≡ (b && as_often xs ys ys)
both_ways xs ys b e =
    rearrangement_by_counts xs ys
    ∙ list_all-append (λ x. count_by (λ y. y == x) xs == count_by (λ y. y == x) ys) xs ys
    ∙ ap (λ b. b && as_often xs ys ys) e

pub returns-then-are_as_often : goal.returns-then-are_as_often
returns-then-are_as_often c =
    let first : as_often c.args.left.now c.args.right.now c.args.left.now ≡ true = sym c.are_as_often.ensures ∙ c.if-are_as_often.true in
    c.are_as_often-then-are_as_often.ensures ∙ sym (both_ways c.args.left.now c.args.right.now true first)

pub returns-else-are_as_often : goal.returns-else-are_as_often
returns-else-are_as_often c =
    let first : as_often c.args.left.now c.args.right.now c.args.left.now ≡ false = sym c.are_as_often.ensures ∙ c.if-are_as_often.false in
    c.if-are_as_often.false ∙ sym (both_ways c.args.left.now c.args.right.now false first)
