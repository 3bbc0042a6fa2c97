-- Names by their letters.
use Rattle.std.proofs.Common.{◌≡◌, ℕ, suc, Bool, true, false, List, [], ◌∷◌, ◌+◌, drop, Some, None, map, length, ◌<◌, nat_lt, refl, arith, ap, ◌∙◌}
use Rattle.std.proofs.lemmas.Bool.{lt-ltb, le-ltb}
use Rattle.std.proofs.Math.ListN.{get_or}
use Rattle.std.proofs.Math.Seq.{drop-cons, drop-length}
use Rattle.std.specs.List.{position, position_or_len}
use Rattle.std.proofs.lemmas.List.{length-map}

same_place : {A B : Type 0} (f : B → Bool) (g : A → B) (xs : List A) → position_or_len f (map g xs) ≡ position_or_len (λ x. f (g x)) xs
same_place f g [] = refl
same_place f g (x ∷ xs) = let more = same_place f g xs in rw more refl

-- what is found in a list of views is found where its view is
pub position-map : {A B : Type 0} (f : B → Bool) (g : A → B) (xs : List A) → position f (map g xs) ≡ position (λ x. f (g x)) xs
position-map f g xs = let there = same_place f g xs in let long = length-map xs g in rw (there, long) refl

pub position_is : {A : Type 0} (f : A → Bool) (xs : List A) (n : ℕ) → n < length xs → position_or_len f xs ≡ n → position f xs ≡ Some n
position_is f xs n lt e = let b : nat_lt n (length xs) ≡ true = lt-ltb n (length xs) lt in rw (e, b) refl

pub position_none : {A : Type 0} (f : A → Bool) (xs : List A) → position_or_len f xs ≡ length xs → position f xs ≡ None
position_none f xs e = let b : nat_lt (length xs) (length xs) ≡ false = le-ltb (length xs) (length xs) (omega arith) in rw (e, b) refl

first_true : {A : Type 0} (f : A → Bool) (x : A) (xs ys : List A) → ys ≡ x ∷ xs → f x ≡ true → position_or_len f ys ≡ 0
first_true f x xs ys e t = ap (position_or_len f) e ∙ (rw t refl)

-- what passes at a place of the list is the first of what is left from there
pub passes_here : {A : Type 0} (f : A → Bool) (xs : List A) (n : ℕ) (d : A) → n < length xs → f (get_or xs n d) ≡ true
    → position_or_len f (drop n xs) ≡ 0
passes_here f xs n d lt t = first_true f (get_or xs n d) (drop (suc n) xs) (drop n xs) (drop-cons xs n d lt) t

-- nothing is left to pass
pub none_passes : {A : Type 0} (f : A → Bool) (xs : List A) (n : ℕ) → n ≡ length xs
    → position_or_len f xs ≡ n + position_or_len f (drop n xs) → position_or_len f xs ≡ length xs
none_passes f xs n e i =
    let nil : drop n xs ≡ [] = ap (λ m. drop m xs) e ∙ drop-length xs in
    let zero : position_or_len f (drop n xs) ≡ 0 = ap (position_or_len f) nil in
    omega (arith, i, zero, e)
