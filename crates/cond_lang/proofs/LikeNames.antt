-- Names that take the same and are of the same kind, whatever they stand for.
use Rattle.std.proofs.Common.{◌≡◌, ℕ, zero, suc, [], ◌∷◌, ◌++◌, Some, length, slice_get, refl, ap}
use Rattle.cond_lang.specs.declared.classes.Choice.{Choice}
use Rattle.cond_lang.specs.declared.classes.Params.{Params}
use Rattle.conditions.specs.Form.{Amount, Form}
use Rattle.cond_lang.specs.Grammar.{Meaning, Meanings, condition, value}

pub data LikeMeaning : Meaning → Meaning → Type 0 where
  conditions : {p : Params} {f g : Choice → Form} → LikeMeaning (condition p f) (condition p g)
  values : {p : Params} {f g : Choice → Amount} → LikeMeaning (value p f) (value p g)

pub data LikeNames : Meanings → Meanings → Type 0 where
  none : LikeNames [] []
  more : {m k : Meaning} {N M : Meanings} → LikeMeaning m k → LikeNames N M → LikeNames (m ∷ N) (k ∷ M)

like_itself : (m : Meaning) → LikeMeaning m m
like_itself (condition p f) = conditions
like_itself (value p f) = values

pub like_names : (N : Meanings) → LikeNames N N
like_names [] = none
like_names (m ∷ N) = more (like_itself m) (like_names N)

pub like_one_more : {m k : Meaning} {N M : Meanings} → LikeNames N M → LikeMeaning m k → LikeNames (N ++ m ∷ []) (M ++ k ∷ [])
like_one_more none l = more l none
like_one_more (more h n) l = more h (like_one_more n l)

pub like_length : {N M : Meanings} → LikeNames N M → length N ≡ length M
like_length none = refl
like_length (more h n) = ap suc (like_length n)

-- the name with the same number
like_at : {N M : Meanings} → LikeNames N M → (n : ℕ) (m : Meaning) → slice_get N n ≡ Some m
    → (k : Meaning) × LikeMeaning m k × (slice_get M n ≡ Some k)
like_at none n m e = absurd (cc)
like_at (more {m = a} {k} h l) zero m e = let i : a ≡ m = cc in (k, rw (← i) h, refl)
like_at (more h l) (suc n) m e = like_at l n m e

condition_like : {m k : Meaning} → LikeMeaning m k → (p : Params) (f : Choice → Form) → m ≡ condition p f → (g : Choice → Form) × (k ≡ condition p g)
condition_like (conditions {p = q} {f = e} {g}) p f i = let j : q ≡ p = cc in (g, ap (λ p. condition p g) j)
condition_like values p f i = absurd (cc)

value_like : {m k : Meaning} → LikeMeaning m k → (p : Params) (f : Choice → Amount) → m ≡ value p f → (g : Choice → Amount) × (k ≡ value p g)
value_like (values {p = q} {f = e} {g}) p f i = let j : q ≡ p = cc in (g, ap (λ p. value p g) j)
value_like conditions p f i = absurd (cc)

pub condition_at : {N M : Meanings} → LikeNames N M → (n : ℕ) (p : Params) (f : Choice → Form)
    → slice_get N n ≡ Some (condition p f) → (g : Choice → Form) × (slice_get M n ≡ Some (condition p g))
condition_at l n p f e =
    let k = like_at l n (condition p f) e in
    let g = condition_like k.1 p f refl in
    (g.0, rw (← g.1) k.2)

pub value_at : {N M : Meanings} → LikeNames N M → (n : ℕ) (p : Params) (f : Choice → Amount)
    → slice_get N n ≡ Some (value p f) → (g : Choice → Amount) × (slice_get M n ≡ Some (value p g))
value_at l n p f e =
    let k = like_at l n (value p f) e in
    let g = value_like k.1 p f refl in
    (g.0, rw (← g.1) k.2)
