use Rattle.std.proofs.Common.{◌≡◌, ℕ, List, [], ◌∷◌, Bool, get_or, refl, ap, ◌∙◌}
use Rattle.cards.specs.Hands.{hand_of, shape_of}
use Rattle.conditions.proofs.meaning.lengths_of.Goals as goal

-- the numbers of a list of four, one by one
four_of : List ℕ → List ℕ
four_of xs = get_or xs 0 0 ∷ get_or xs 1 0 ∷ get_or xs 2 0 ∷ get_or xs 3 0 ∷ []

four_of-shape : (hand : List Bool) → four_of (shape_of hand) ≡ shape_of hand
unfolding four_of
four_of-shape hand = refl

pub returns : goal.returns
unfolding four_of
returns c =
    let is : c.shape.result ≡ shape_of (hand_of c.args.deal.now c.args.seat) = c.shape.ensures ∙ ap shape_of c.hand.ensures.value in
    rw (c.from.ensures, c.from-2.ensures, c.from-3.ensures, c.from-4.ensures) (ap four_of is ∙ four_of-shape (hand_of c.args.deal.now c.args.seat))
