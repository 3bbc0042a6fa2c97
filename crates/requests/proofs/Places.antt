-- The first eight of some texts, each in its place.
use Rattle.std.proofs.Common.{◌≡◌, ◌∷◌, ℕ, List, [], Option, refl, take}
use Rattle.std.specs.Prelude.{option_to_list, slice_get}
use Rattle.std.specs.List.{flat_map}

pub eight_places : (xs : List (List ℕ))
    → flat_map option_to_list (slice_get xs 0 ∷ slice_get xs 1 ∷ slice_get xs 2 ∷ slice_get xs 3 ∷ slice_get xs
    4 ∷ slice_get xs 5 ∷ slice_get xs 6 ∷ slice_get xs 7 ∷ []) ≡ take 8 xs
eight_places [] = refl
eight_places (a ∷ []) = refl
eight_places (a ∷ b ∷ []) = refl
eight_places (a ∷ b ∷ c ∷ []) = refl
eight_places (a ∷ b ∷ c ∷ d ∷ []) = refl
eight_places (a ∷ b ∷ c ∷ d ∷ e ∷ []) = refl
eight_places (a ∷ b ∷ c ∷ d ∷ e ∷ f ∷ []) = refl
eight_places (a ∷ b ∷ c ∷ d ∷ e ∷ f ∷ g ∷ []) = refl
eight_places (a ∷ b ∷ c ∷ d ∷ e ∷ f ∷ g ∷ h ∷ xs) = refl
