-- Two lists are rearrangements of each other exactly if one is a permutation of the other, and exactly if each number
-- stands as often in both.
use Rattle.std.proofs.Common.{◌≡◌, ℕ, ◌+◌, ◌<◌, ◌==◌, ◌&&◌, ◌||◌, ◌↔◌, Bool, true, false, cond, List, [], ◌∷◌, ◌++◌}
use Rattle.std.proofs.Common.{map, refl, sym, ◌∙◌, ap, arith, subst, inl, inr, ◌⊎◌}
use Rattle.std.specs.Prelude.{IsTrue}
use Rattle.std.specs.List.{count_by, flat_map, list_all, list_any}
use Rattle.std.specs.List.Sorted.{IsPermutation}
use Rattle.std.proofs.lemmas.Bool.{cases_lt}
use Rattle.std.proofs.lemmas.Bool.Decides.{nat_tests}
use Rattle.std.proofs.lemmas.List.Sums.{sum_by-cons, sum_by-append}
use Rattle.std.proofs.lemmas.List.Sorted.{IsPermutation-refl, IsPermutation-sym, IsPermutation-trans}
use Rattle.std.proofs.lemmas.List.Sorted.{IsPermutation-cons, IsPermutation-remove, sum_by-IsPermutation}
use Rattle.std.proofs.lemmas.Bool.{false≢true}
use Rattle.std.proofs.lemmas.List.Folds.{list_any-append}
use Rattle.cards.specs.Hands.{put_anywhere, orders_of, is_same, is_rearrangement}

-- how often x stands in the list
abbrev pub times : ℕ → List ℕ → ℕ
times x xs = count_by (λ y. y == x) xs

same_number : (x : ℕ) → (x == x) ≡ true
same_number x = grind (arith, nat_tests)

same_value : (x y : ℕ) → (y == x) ≡ true → y ≡ x
same_value x y h = grind (arith, nat_tests)

times-cons : (x y : ℕ) (xs : List ℕ) → times x (y ∷ xs) ≡ cond (y == x) 1 0 + times x xs
times-cons x y xs = sum_by-cons (λ z. cond (z == x) 1 0) y xs

times-head : (x : ℕ) (xs : List ℕ) → times x (x ∷ xs) ≡ 1 + times x xs
times-head x xs = times-cons x x xs ∙ rw (same_number x) refl

either : (b : Bool) → (b ≡ true) ⊎ (b ≡ false)
either true = inl refl
either false = inr refl

exchanged : (a b : ℕ) (zs : List ℕ) → IsPermutation (a ∷ b ∷ zs) (b ∷ a ∷ zs)
exchanged a b zs = IsPermutation-remove (a ∷ b ∷ zs) 1 b (omega arith) refl

times-other : (x y : ℕ) (xs : List ℕ) → (y == x) ≡ false → times x (y ∷ xs) ≡ times x xs
times-other x y xs e = times-cons x y xs ∙ rw e (omega arith)

-- ---- tests of lists
or_cases : (a b : Bool) → (a || b) ≡ true → (a ≡ true) ⊎ (b ≡ true)
or_cases true b h = inl refl
or_cases false b h = inr h

or_right : (a b : Bool) → b ≡ true → (a || b) ≡ true
or_right true b h = refl
or_right false b h = h

any_mapped : (p : List ℕ → Bool) (f : List ℕ → List ℕ) (xss : List (List ℕ)) → list_any p (map f xss) ≡ list_any (λ zs. p (f zs)) xss
any_mapped p f [] = refl
any_mapped p f (xs ∷ xss) = ap (λ b. p (f xs) || b) (any_mapped p f xss)

any_of_lists : (p : List ℕ → Bool) (f : List ℕ → List (List ℕ)) (xss : List (List ℕ))
    → list_any p (flat_map f xss) ≡ list_any (λ zs. list_any p (f zs)) xss
any_of_lists p f [] = refl
any_of_lists p f (xs ∷ xss) = list_any-append p (f xs) (flat_map f xss) ∙ ap (λ b. list_any p (f xs) || b) (any_of_lists p f xss)

-- what passes a test among the lists with x put somewhere has x and the list's numbers
one_put : (x : ℕ) (ys : List ℕ) (p : List ℕ → Bool) (Q : Type 0)
    → ((zs : List ℕ) → IsPermutation (x ∷ ys) zs → p zs ≡ true → Q) → list_any p (put_anywhere x ys) ≡ true → Q
one_put x [] p Q k h =
    elim (or_cases (p (x ∷ [])) false h) [
      | inl e ↦ k (x ∷ []) (IsPermutation-refl (x ∷ [])) e
      | inr e ↦ absurd (false≢true e)
    ]
one_put x (y ∷ ys) p Q k h =
    elim (or_cases (p (x ∷ y ∷ ys)) (list_any p (map (λ zs. y ∷ zs) (put_anywhere x ys))) h) [
      | inl e ↦ k (x ∷ y ∷ ys) (IsPermutation-refl (x ∷ y ∷ ys)) e
      | inr e ↦
          one_put x ys (λ zs. p (y ∷ zs)) Q
          (λ zs moved f. k (y ∷ zs) (IsPermutation-trans (x ∷ y ∷ ys) (y ∷ x ∷ ys) (y ∷ zs) (exchanged x y ys)
          (IsPermutation-cons y (x ∷ ys) zs moved)) f)
          (sym (any_mapped p (λ zs. y ∷ zs) (put_anywhere x ys)) ∙ e)
    ]

-- what passes a test among the orders has the list's numbers
one_order : (xs : List ℕ) (p : List ℕ → Bool) (Q : Type 0) → ((zs : List ℕ) → IsPermutation xs zs → p zs ≡ true → Q)
    → list_any p (orders_of xs) ≡ true → Q
one_order [] p Q k h =
    elim (or_cases (p []) false h) [
      | inl e ↦ k [] (IsPermutation-refl []) e
      | inr e ↦ absurd (false≢true e)
    ]
one_order (x ∷ xs) p Q k h =
    one_order xs (λ zs. list_any p (put_anywhere x zs)) Q
    (λ zs moved e. one_put x zs p Q (λ ys put f. k ys (IsPermutation-trans (x ∷ xs) (x ∷ zs) ys (IsPermutation-cons x xs zs moved) put) f) e)
    (sym (any_of_lists p (put_anywhere x) (orders_of xs)) ∙ h)

first_place : (x : ℕ) (ys : List ℕ) (p : List ℕ → Bool) → p (x ∷ ys) ≡ true → list_any p (put_anywhere x ys) ≡ true
first_place x [] p h = rw h refl
first_place x (y ∷ ys) p h = rw h refl

-- a list that has x somewhere, with x taken to the front; put back somewhere it is the list
taken : (x : ℕ) (ys : List ℕ) → 0 < times x ys → (rest : List ℕ) × IsPermutation ys (x ∷ rest)
    × ((p : List ℕ → Bool) → p ys ≡ true → list_any p (put_anywhere x rest) ≡ true)
taken x [] h = absurd (omega arith)
taken x (y ∷ ys) h =
    elim (either (y == x)) [
      | inl e ↦ (
        ys,
        subst (λ z. IsPermutation (y ∷ ys) (z ∷ ys)) (same_value x y e) (IsPermutation-refl (y ∷ ys)),
        λ p f. first_place x ys p (subst (λ z. p (z ∷ ys) ≡ true) (same_value x y e) f),
      )
      | inr e ↦
          let found = taken x ys (rw (times-other x y ys e) at h) in
          let rest : List ℕ = found.0 in (
            y ∷ rest,
            IsPermutation-trans (y ∷ ys) (y ∷ x ∷ rest) (x ∷ y ∷ rest) (IsPermutation-cons y ys (x ∷ rest) found.1) (exchanged y x rest),
            λ p f.
                or_right (p (x ∷ y ∷ rest)) (list_any p (map (λ zs. y ∷ zs) (put_anywhere x rest)))
                (any_mapped p (λ zs. y ∷ zs) (put_anywhere x rest) ∙ found.2 (λ zs. p (y ∷ zs)) f),
          )
    ]

pub permutation_from_times : (xs ys : List ℕ) → ((x : ℕ) → times x xs ≡ times x ys) → IsPermutation xs ys
permutation_from_times [] [] same = IsPermutation-refl []
permutation_from_times [] (y ∷ ys) same = absurd (let none : times y [] ≡ 0 = refl in omega (arith, same y, times-head y ys, none))
permutation_from_times (x ∷ xs) ys same =
    let found = taken x ys (omega (arith, same x, times-head x xs)) in
    let rest : List ℕ = found.0 in
    let here : IsPermutation xs rest = permutation_from_times xs rest (λ z.
    omega (arith, same z, times-cons z x xs, times-cons z x rest, sum_by-IsPermutation (λ y. cond (y == z) 1 0) ys (x ∷ rest) found.1)) in
    IsPermutation-trans (x ∷ xs) (x ∷ rest) ys (IsPermutation-cons x xs rest here) (IsPermutation-sym ys (x ∷ rest) found.1)

-- a list with the same counts is among the orders
order_from_times : (xs ys : List ℕ) → ((x : ℕ) → times x xs ≡ times x ys) → (p : List ℕ → Bool) → p ys ≡ true → list_any p (orders_of xs) ≡ true
order_from_times [] [] same p h = rw h refl
order_from_times [] (y ∷ ys) same p h = absurd (let none : times y [] ≡ 0 = refl in omega (arith, same y, times-head y ys, none))
order_from_times (x ∷ xs) ys same p h =
    let found = taken x ys (omega (arith, same x, times-head x xs)) in
    let rest : List ℕ = found.0 in
    any_of_lists p (put_anywhere x) (orders_of xs)
    ∙ order_from_times xs rest (λ z.
    omega (
      arith,
      same z,
      times-cons z x xs,
      times-cons z x rest,
      sum_by-IsPermutation (λ y. cond (y == z) 1 0) ys (x ∷ rest) found.1,
    )) (λ zs. list_any p (put_anywhere x zs))
    (found.2 p h)

pub times_from_permutation : (xs ys : List ℕ) → IsPermutation xs ys → (x : ℕ) → times x xs ≡ times x ys
times_from_permutation xs ys h x = sym (sum_by-IsPermutation (λ y. cond (y == x) 1 0) xs ys h)

and_left : (a b : Bool) → (a && b) ≡ true → a ≡ true
and_left true b h = refl
and_left false b h = h

and_right : (a b : Bool) → (a && b) ≡ true → b ≡ true
and_right true b h = h
and_right false true h = refl
and_right false false h = h

-- a test that all elements pass, at one that stands there
passed : (test : ℕ → Bool) (x : ℕ) (zs : List ℕ) → list_all test zs ≡ true → 0 < times x zs → test x ≡ true
passed test x [] all h = absurd (omega arith)
passed test x (z ∷ zs) all h =
    elim (either (z == x)) [
      | inl e ↦ ap test (sym (same_value x z e)) ∙ and_left (test z) (list_all test zs) all
      | inr e ↦ passed test x zs (and_right (test z) (list_all test zs) all) (rw (times-other x z zs e) at h)
    ]

same_numbers : (a b : ℕ) → (a == b) ≡ true → a ≡ b
same_numbers a b h = grind (arith, nat_tests)

all_same : (xs ys zs : List ℕ) → ((x : ℕ) → times x xs ≡ times x ys) → list_all (λ x. times x xs == times x ys) zs ≡ true
all_same xs ys [] same = refl
all_same xs ys (z ∷ zs) same = rw (same z, same_number (times z ys)) (all_same xs ys zs same)

-- each number of the two lists stands as often in both
abbrev pub has_same_counts : List ℕ → List ℕ → Bool
has_same_counts xs ys = list_all (λ x. count_by (λ y. y == x) xs == count_by (λ y. y == x) ys) (xs ++ ys)

times_from_counts : (xs ys : List ℕ) → has_same_counts xs ys ≡ true → (x : ℕ) → times x xs ≡ times x ys
times_from_counts xs ys h x =
    elim (cases_lt 0 (times x (xs ++ ys))) [
      | inl stands ↦ same_numbers _ _ (passed (λ z. times z xs == times z ys) x (xs ++ ys) h stands)
      | inr none ↦ omega (arith, sum_by-append (λ y. cond (y == x) 1 0) xs ys)
    ]

-- ---- rearrangements
same_lists : (xs ys : List ℕ) → is_same xs ys ≡ true → xs ≡ ys
same_lists [] [] h = refl
same_lists [] (y ∷ ys) h = absurd (false≢true h)
same_lists (x ∷ xs) [] h = absurd (false≢true h)
same_lists (x ∷ xs) (y ∷ ys) h =
    let here : x ≡ y = same_numbers x y (and_left (x == y) (is_same xs ys) h) in
    let behind : xs ≡ ys = same_lists xs ys (and_right (x == y) (is_same xs ys) h) in
    cc

same_itself : (xs : List ℕ) → is_same xs xs ≡ true
same_itself [] = refl
same_itself (x ∷ xs) = rw (same_number x) (same_itself xs)

pub rearrangement_is_permutation : (xs ys : List ℕ) → IsTrue (is_rearrangement xs ys) ↔ IsPermutation xs ys
unfolding is_rearrangement
rearrangement_is_permutation xs ys = (
  λ h. one_order xs (λ zs. is_same zs ys) (IsPermutation xs ys) (λ zs moved e. subst (IsPermutation xs) (same_lists zs ys e) moved) h,
  λ h. order_from_times xs ys (times_from_permutation xs ys h) (λ zs. is_same zs ys) (same_itself ys),
)

same_truth : (a b : Bool) → (a ≡ true → b ≡ true) → (b ≡ true → a ≡ true) → a ≡ b
same_truth true b f g = sym (f refl)
same_truth false true f g = g refl
same_truth false false f g = refl

-- a rearrangement by counting
pub rearrangement_by_counts : (xs ys : List ℕ) → is_rearrangement xs ys ≡ list_all
    (λ x. count_by (λ y. y == x) xs == count_by (λ y. y == x) ys) (xs ++ ys)
rearrangement_by_counts xs ys =
    same_truth (is_rearrangement xs ys) (has_same_counts xs ys)
    (λ h. all_same xs ys (xs ++ ys) (times_from_permutation xs ys ((rearrangement_is_permutation xs ys).0 h)))
    (λ h. (rearrangement_is_permutation xs ys).1 (permutation_from_times xs ys (times_from_counts xs ys h)))
