-- One more digit, space or block of a text.
use Rattle.std.proofs.Common.{◌≡◌, ◌∙◌, ◌<◌, ◌+◌, ◌++◌, ℕ, suc, List, [], ◌∷◌, length, take, get_or, replicate, refl, sym, ap, arith, add-one}
use Rattle.std.specs.List.{enumerate_from, flat_map}
use Rattle.std.proofs.lemmas.Grind.{flat_map-append}
use Rattle.std.proofs.lemmas.List.{append-nil, replicate-append-replicate, take_more, length-take}
use Rattle.statistics.specs.Columns.{comma_at, grouped}
use Rattle.statistics.specs.OneQuestion.{block, blocks}

-- the first of n digits, with commas
unfoldable pub groups : ℕ → List ℕ → List ℕ
groups n digits = flat_map (λ p. comma_at p.0 n ++ p.1 ∷ []) (enumerate_from 0 digits)

pub groups_all : (digits : List ℕ) → grouped digits ≡ groups (length digits) digits
unfolding groups grouped
groups_all digits = refl

pub groups_none : (n : ℕ) → groups n [] ≡ []
unfolding groups
groups_none n = refl

enumerate_from-more : (n : ℕ) (xs : List ℕ) (x : ℕ) → enumerate_from n (xs ++ x ∷ []) ≡ enumerate_from n xs ++ (n + length xs, x) ∷ []
enumerate_from-more n [] x = let e : n + 0 ≡ n = omega arith in rw e refl
enumerate_from-more n (y ∷ xs) x =
    let e : n + 1 + length xs ≡ n + suc (length xs) = omega arith in
    ap (λ l. (n, y) ∷ l) (enumerate_from-more (n + 1) xs x ∙ ap (λ k. enumerate_from (n + 1) xs ++ (k, x) ∷ []) e)

groups-append : (n : ℕ) (xs : List ℕ) (x i : ℕ) → length xs ≡ i → groups n (xs ++ x ∷ []) ≡ groups n xs ++ (comma_at i n ++ x ∷ [])
unfolding groups
groups-append n xs x i e =
    let f : ℕ × ℕ → List ℕ = λ p. comma_at p.0 n ++ p.1 ∷ [] in
    let k : 0 + length xs ≡ i = omega arith in
    ap (flat_map f) (enumerate_from-more 0 xs x ∙ ap (λ j. enumerate_from 0 xs ++ (j, x) ∷ []) k)
    ∙ flat_map-append f (enumerate_from 0 xs) ((i, x) ∷ [])
    ∙ ap (λ l. flat_map f (enumerate_from 0 xs) ++ l) (append-nil (comma_at i n ++ x ∷ []))

pub groups_more : (n : ℕ) (xs : List ℕ) (i : ℕ) → i < length xs
    → groups n (take (i + 1) xs) ≡ groups n (take i xs) ++ (comma_at i n ++ get_or xs i 0 ∷ [])
groups_more n xs i h =
    let e : length (take i xs) ≡ i = omega (arith, length-take {A = ℕ}) in
    ap (groups n) (take_more xs i 0 h) ∙ groups-append n (take i xs) (get_or xs i 0) i e

pub replicate_more : (n x : ℕ) → replicate (n + 1) x ≡ replicate n x ++ x ∷ []
replicate_more n x = sym (replicate-append-replicate n 1 x)

pub blocks_more : (n : ℕ) → blocks (n + 1) ≡ blocks n ++ block
blocks_more n = rw add-one refl
