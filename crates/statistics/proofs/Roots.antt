-- A whole square root is the number whose square isn't more, while that of the next one is.
use Rattle.std.proofs.Common.{inl, inr, subst, ◌≡◌, ◌∙◌, ◌≤◌, ◌<◌, ◌+◌, ◌-◌, ◌*◌, ℕ, zero, suc, Bool, true, false}
use Rattle.std.proofs.Common.{cond, List, ◌∷◌, refl, sym, ap, arith, zero-add}
use Rattle.std.specs.Prelude.{count_by, nat_le}
use Rattle.std.specs.List.{range_with_len}
use Rattle.std.proofs.lemmas.List.Sums.{sum_by-cons}
use Rattle.std.proofs.lemmas.Bool.{cases_lt, le-leb, lt-leb}
use Rattle.std.proofs.Math.Nat.{add-mul, mul-add, mul-le-mul, le-mul_of_pos_right}
use Rattle.statistics.specs.Rounded.{whole_root}

one_if : Bool → ℕ
one_if b = cond b 1 0

count_miss : (p : ℕ → Bool) (a : ℕ) (xs : List ℕ) → p a ≡ false → count_by p (a ∷ xs) ≡ count_by p xs
unfolding one_if
count_miss p a xs h =
    sum_by-cons (λ x. one_if (p x)) a xs ∙ ap (λ (b : Bool). one_if b + count_by p xs) h ∙ zero-add (count_by p xs)

count_hit : (p : ℕ → Bool) (a : ℕ) (xs : List ℕ) → p a ≡ true → count_by p (a ∷ xs) ≡ 1 + count_by p xs
unfolding one_if
count_hit p a xs h =
    sum_by-cons (λ x. one_if (p x)) a xs ∙ ap (λ (b : Bool). one_if b + count_by p xs) h

-- of numbers in a row none pass
count_none : (p : ℕ → Bool) (a n : ℕ) → ((k : ℕ) → a ≤ k → p k ≡ false) → count_by p (range_with_len a n) ≡ 0
count_none p a zero misses = refl
count_none p a (suc n) misses =
    count_miss p a (range_with_len (a + 1) n) (misses a (omega arith))
    ∙ count_none p (a + 1) n (λ (k : ℕ) (h : a + 1 ≤ k). misses k (omega arith))

-- and the first m do, but no other
count_first : (p : ℕ → Bool) (a m n : ℕ) → ((k : ℕ) → a ≤ k → k < a + m → p k ≡ true)
    → ((k : ℕ) → a + m ≤ k → p k ≡ false) → count_by p (range_with_len a (m + n)) ≡ m
count_first p a zero n hits misses =
    let e : zero + n ≡ n = omega arith in
    rw e (count_none p a n (λ (k : ℕ) (h : a ≤ k). misses k (omega arith)))
count_first p a (suc m) n hits misses =
    let e : suc m + n ≡ suc (m + n) = omega arith in
    let f : 1 + m ≡ suc m = omega arith in
    let rest = count_first p (a + 1) m n
    (λ (k : ℕ) (h : a + 1 ≤ k) (l : k < a + 1 + m). hits k (omega arith) (omega arith))
    (λ (k : ℕ) (h : a + 1 + m ≤ k). misses k (omega arith)) in
    ap (λ len. count_by p (range_with_len a len)) e
    ∙ count_hit p a (range_with_len (a + 1) (m + n)) (hits a (omega arith) (omega arith))
    ∙ ap (λ i. 1 + i) rest ∙ f

below_square : (r : ℕ) → r ≤ r * r
below_square zero = omega arith
below_square (suc r) = le-mul_of_pos_right (suc r) (omega arith)

pub root_is : (n r : ℕ) → r * r ≤ n → n < (r + 1) * (r + 1) → r ≡ whole_root n
unfolding whole_root
root_is n r low high =
    let e : n ≡ r + (n - r) = omega (arith, below_square r) in
    let p : ℕ → Bool = λ k. nat_le (k * k) n in
    let hits : (k : ℕ) → 1 ≤ k → k < 1 + r → p k ≡ true = λ k a b.
    let h : k ≤ r = omega arith in
    le-leb (k * k) n (omega (arith, mul-le-mul h h)) in
    let misses : (k : ℕ) → 1 + r ≤ k → p k ≡ false = λ k a.
    let h : r + 1 ≤ k = omega arith in
    lt-leb (k * k) n (omega (arith, mul-le-mul h h)) in
    sym (ap (λ m. count_by p (range_with_len 1 m)) e ∙ count_first p 1 r (n - r) hits misses)

-- between two numbers in a row
pub root_found : (n low high : ℕ) → low * low ≤ n → n < high * high → low < high → high ≤ low + 1 → low ≡ whole_root n
root_found n low high below above order near =
    let e : high ≡ low + 1 = omega arith in
    root_is n low below (rw e at above)

-- the number whose square is the greatest up to n
pub record IsRoot (n : ℕ) (r : ℕ) : Type 0 where
  pub below : r * r ≤ n
  pub above : n < (r + 1) * (r + 1)

square_more : (r : ℕ) → (r + 1) * (r + 1) ≡ r * r + 2 * r + 1
square_more r = mul-add (r + 1) r 1 ∙ omega (arith, add-mul r 1 r)

has_root : (n : ℕ) → (r : ℕ) × IsRoot n r
has_root zero = (0, record { below = omega arith; above = omega arith })
has_root (suc n) =
    let (r, is) = has_root n in
    elim (cases_lt (suc n) ((r + 1) * (r + 1))) [
      | inl less ↦ (r, record { below = omega (arith, is.below); above = less })
      | inr more ↦ (r + 1, record { below = more; above = omega (arith, is.above, square_more (r + 1), square_more r) })
    ]

pub root_of : (n : ℕ) → IsRoot n (whole_root n)
root_of n =
    let (r, is) = has_root n in
    subst (IsRoot n) (root_is n r is.below is.above) is
