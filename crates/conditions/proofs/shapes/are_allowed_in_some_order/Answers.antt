use Rattle.std.proofs.Common.{◌≡◌, ℕ, List, [], ◌∷◌, length, get_or, refl, ap, ◌∙◌, arith}
use Rattle.std.specs.List.{list_any}
use Rattle.cards.specs.Hands.{orders_of}
use Rattle.conditions.specs.Meaning.{are_allowed, are_allowed_in_some_order}
use Rattle.conditions.proofs.shapes.are_allowed_in_some_order.Goals as goal

-- the numbers of a list of four, one by one
four_of : (xs : List ℕ) → length xs ≡ 4 → get_or xs 0 0 ∷ get_or xs 1 0 ∷ get_or xs 2 0 ∷ get_or xs 3 0 ∷ [] ≡ xs
four_of (a ∷ b ∷ c ∷ d ∷ []) e = refl
four_of [] e = absurd (omega (arith, e))
four_of (a ∷ []) e = absurd (omega (arith, e))
four_of (a ∷ b ∷ []) e = absurd (omega (arith, e))
four_of (a ∷ b ∷ c ∷ []) e = absurd (omega (arith, e))
four_of (a ∷ b ∷ c ∷ d ∷ x ∷ xs) e = absurd (omega (arith, e))

pub returns : goal.returns
unfolding are_allowed_in_some_order
returns c =
    c.allow_one.ensures
    ∙ ap (list_any (are_allowed c.args.items.now)) (c.orders_of-shapes.ensures ∙ ap orders_of (four_of c.args.lengths.now c.told-lengths))
