-- Lists that grow at their end.
use Rattle.std.proofs.Common.{◌≡◌, zero, suc, List, [], ◌∷◌, ◌++◌, All, map, arith, ap, ◌∙◌, sym, subst}
use Rattle.std.proofs.lemmas.List.{map-append}
use Rattle.std.proofs.lemmas.List.Elements.{All-append}

pub map_snoc : {A B : Type 0} (f : A → B) (xs ys : List A) (x : A) (zs : List B) (z : B) → ys ≡ xs ++ x ∷ []
    → map f xs ≡ zs → f x ≡ z → map f ys ≡ zs ++ z ∷ []
map_snoc f xs ys x zs z grown before one = ap (map f) grown ∙ (map-append f xs (x ∷ []) ∙ cc)

all_one : {A : Type 0} (P : A → Type 0) (x : A) → P x → All P (x ∷ [])
all_one P x here zero d below = here
all_one P x here (suc k) d below = absurd (omega arith)

pub all_snoc : {A : Type 0} (P : A → Type 0) (xs ys : List A) (x : A) → ys ≡ xs ++ x ∷ [] → All P xs → P x → All P ys
all_snoc P xs ys x grown before here = subst (All P) (sym grown) (All-append P xs (x ∷ []) before (all_one P x here))
