-- Several questions, one after the other.
use Rattle.std.proofs.Common.{◌≡◌, ◌+◌, ◌<◌, ◌≤◌, ◌++◌, ◌∷◌, ◌∙◌, ℕ, suc, zero, List, [], Option, get_or, length, map}
use Rattle.std.proofs.Common.{take, drop, refl, sym, ap, subst, append_assoc, arith}
use Rattle.std.specs.List.{enumerate_from, flat_map}
use Rattle.std.proofs.lemmas.List.{append-nil, length-take-le, take-append-drop, take_more}
use Rattle.sinks.specs.Appended.{AppendsAll, AppendsPart}
use Rattle.statistics.proofs.Parts.{part_more, then_all, then_part}

-- the parts of some questions, numbered from one on
abbrev pub numbered : {X : Type 0} → (ℕ × X → List ℕ) → ℕ → List X → List ℕ
numbered f n xs = flat_map f (enumerate_from n xs)

pub numbered-append : {X : Type 0} (f : ℕ × X → List ℕ) (n : ℕ) (xs ys : List X)
    → numbered f n (xs ++ ys) ≡ numbered f n xs ++ numbered f (n + length xs) ys
numbered-append f n [] ys = let e : n + 0 ≡ n = omega arith in rw e refl
numbered-append f n (x ∷ xs) ys =
    let e : n + 1 + length xs ≡ n + length (x ∷ xs) = omega arith in
    ap (λ (l : List ℕ). f (n, x) ++ l) (numbered-append f (n + 1) xs ys)
    ∙ sym (append_assoc (f (n, x)) (numbered f (n + 1) xs) (numbered f (n + 1 + length xs) ys))
    ∙ ap (λ (k : ℕ). f (n, x) ++ numbered f (n + 1) xs ++ numbered f k ys) e

-- of questions that are told by what they are made of
pub numbered-map : {X Y : Type 0} (g : X → Y) (f : ℕ × Y → List ℕ) (n : ℕ) (xs : List X)
    → numbered f n (map g xs) ≡ numbered (λ p. f (p.0, g p.1)) n xs
numbered-map g f n [] = refl
numbered-map g f n (x ∷ xs) = ap (λ (l : List ℕ). f (n, g x) ++ l) (numbered-map g f (n + 1) xs)

one_more : {X : Type 0} (f : ℕ × X → List ℕ) (xs : List X) (i : ℕ) (x : X) → i < length xs → get_or xs i x ≡ x
    → numbered f 1 (take (i + 1) xs) ≡ numbered f 1 (take i xs) ++ f (i + 1, x)
one_more {X = X} f xs i x lt is =
    let few : length (take i xs) ≡ i = length-take-le i xs (omega arith) in
    let e : 1 + length (take i xs) ≡ i + 1 = omega (arith, few) in
    ap (numbered f 1) (take_more xs i x lt ∙ ap (λ (y : X). take i xs ++ y ∷ []) is) ∙ numbered-append f 1 (take i xs) (x ∷ [])
    ∙ ap (λ (l : List ℕ). numbered f 1 (take i xs) ++ l) (append-nil (f (1 + length (take i xs), x)) ∙ ap (λ (k : ℕ). f (k, x)) e)

pub parts_more : {X : Type 0} (old mid new : Option (List ℕ)) (f : ℕ × X → List ℕ) (xs : List X) (i : ℕ) (x : X) → i < length xs → get_or xs i x ≡ x
    → AppendsAll old mid (numbered f 1 (take i xs)) → AppendsAll mid new (f (i + 1, x)) → AppendsAll old new (numbered f 1 (take (i + 1) xs))
parts_more old mid new f xs i x lt is a b =
    subst (AppendsAll old new) (sym (one_more f xs i x lt is)) (then_all old mid new (numbered f 1 (take i xs)) (f (i + 1, x)) a b)

pub parts_broken : {X : Type 0} (old mid new : Option (List ℕ)) (f : ℕ × X → List ℕ) (xs : List X) (i : ℕ) (x : X) → i < length xs → get_or xs i x ≡ x
    → AppendsAll old mid (numbered f 1 (take i xs)) → AppendsPart mid new (f (i + 1, x)) → AppendsPart old new (numbered f 1 xs)
parts_broken old mid new f xs i x lt is a b =
    subst (AppendsPart old new) (sym (numbered-append f 1 (take (i + 1) xs) (drop (i + 1) xs)) ∙ ap (numbered f 1) (take-append-drop (i + 1) xs))
    (part_more old new (numbered f 1 (take (i + 1) xs)) (numbered f (1 + length (take (i + 1) xs)) (drop (i + 1) xs))
    (subst (AppendsPart old new) (sym (one_more f xs i x lt is)) (then_part old mid new (numbered f 1 (take i xs)) (f (i + 1, x)) a b)))
