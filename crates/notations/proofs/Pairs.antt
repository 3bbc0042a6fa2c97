-- The two bytes of a pair.
use Rattle.std.proofs.Common.{◌≡◌, ℕ, List, [], ◌∷◌, length, get_or, refl, arith}

pub pair : (xs : List ℕ) → length xs ≡ 2 → get_or xs 0 0 ∷ get_or xs 1 0 ∷ [] ≡ xs
pair [] two = absurd (omega (arith, two))
pair (x ∷ []) two = absurd (omega (arith, two))
pair (x ∷ y ∷ []) two = refl
pair (x ∷ y ∷ z ∷ xs) two = absurd (omega (arith, two))
