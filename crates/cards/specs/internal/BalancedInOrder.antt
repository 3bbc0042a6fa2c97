-- The shapes of a balanced hand, each in ascending order.
use Rattle.std.specs.Prelude.{◌≡◌, ℕ, ◌⊎◌, List, [], ◌∷◌}

abbrev pub IsBalancedInOrder : List ℕ → Type 0
IsBalancedInOrder lengths =
    (lengths ≡ 3 ∷ 3 ∷ 3 ∷ 4 ∷ [])
    ⊎ (lengths ≡ 2 ∷ 3 ∷ 4 ∷ 4 ∷ [])
    ⊎ (lengths ≡ 2 ∷ 3 ∷ 3 ∷ 5 ∷ [])
