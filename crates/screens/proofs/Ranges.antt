-- Tests of each number of a range.
use Rattle.std.proofs.Common.{◌≡◌, ◌≤◌, ◌<◌, ◌+◌, ◌&&◌, ◌∙◌, ℕ, zero, suc, Bool, true, false, ap, arith, refl, inl, inr}
use Rattle.std.specs.List.{list_all, range_with_len}
use Rattle.std.proofs.lemmas.Bool.{cases_lt}

and_true : (b c : Bool) → b ≡ true → c ≡ true → (b && c) ≡ true
and_true b c h k = rw (h, k) refl

first_true : (b c : Bool) → (b && c) ≡ true → b ≡ true
first_true true c h = refl
first_true false c h = absurd (cc h)

rest_true : (b c : Bool) → (b && c) ≡ true → c ≡ true
rest_true true c h = h
rest_true false c h = absurd (cc h)

no_first : (b c : Bool) → b ≡ false → (b && c) ≡ false
no_first b c h = rw h refl

no_rest : (b c : Bool) → c ≡ false → (b && c) ≡ false
no_rest true c h = h
no_rest false c h = refl

-- one more number
pub one_more : (p : ℕ → Bool) (a k j n : ℕ) → list_all p (range_with_len a k) ≡ true → j ≡ a + k → n ≡ k + 1
    → p j ≡ true → list_all p (range_with_len a n) ≡ true
one_more p a zero j (suc zero) h e m here = and_true (p a) true (ap p (omega (arith, e)) ∙ here) refl
one_more p a (suc k) j (suc n) h e m here =
    and_true (p a) (list_all p (range_with_len (a + 1) n)) (first_true (p a) (list_all p (range_with_len (a + 1) k)) h)
    (one_more p (a + 1) k j n (rest_true (p a) (list_all p (range_with_len (a + 1) k)) h) (omega (arith, e)) (omega (arith, m)) here)
one_more p a k j zero h e m here = absurd (omega (arith, m))
one_more p a zero j (suc (suc n)) h e m here = absurd (omega (arith, m))

-- a number that fails
pub one_fails : (p : ℕ → Bool) (a n j : ℕ) → a ≤ j → j < a + n → p j ≡ false → list_all p (range_with_len a n) ≡ false
one_fails p a zero j low high here = absurd (omega arith)
one_fails p a (suc n) j low high here =
    elim (cases_lt a j) [
      | inl less ↦ no_rest (p a) (list_all p (range_with_len (a + 1) n)) (one_fails p (a + 1) n j (omega arith) (omega arith) here)
      | inr all ↦
          let e : a ≡ j = omega arith in
          no_first (p a) (list_all p (range_with_len (a + 1) n)) (ap p e ∙ here)
    ]

-- each number passes
pub passes_at : (p : ℕ → Bool) (a n j : ℕ) → list_all p (range_with_len a n) ≡ true → a ≤ j → j < a + n → p j ≡ true
passes_at p a zero j all low high = absurd (omega arith)
passes_at p a (suc n) j all low high =
    elim (cases_lt a j) [
      | inl less ↦ passes_at p (a + 1) n j (rest_true (p a) (list_all p (range_with_len (a + 1) n)) all) (omega arith) (omega arith)
      | inr same ↦
          let e : j ≡ a = omega arith in
          ap p e ∙ first_true (p a) (list_all p (range_with_len (a + 1) n)) all
    ]
