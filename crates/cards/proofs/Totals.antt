-- Sums of a function over 0, 1, .., n - 1.
use Rattle.std.proofs.Common.{◌≡◌, ℕ, zero, suc, ◌+◌, ◌-◌, ◌<◌, ◌≤◌, ◌&&◌, cond, min, map, refl, sym, ap, ◌∙◌, arith, inl, inr}
use Rattle.std.specs.Prelude.{nat_le, ltb}
use Rattle.std.specs.List.{range_with_len, sum_by}
use Rattle.std.proofs.lemmas.Bool.{cases_lt}
use Rattle.std.proofs.lemmas.Bool.Decides.{nat_tests}
use Rattle.std.proofs.lemmas.List.FromFn.{sum_by-map-range_with_len_more}

unfoldable pub total : (ℕ → ℕ) → ℕ → ℕ
total g zero = 0
total g (suc n) = total g n + g n

pub total_of_map : {X : Type 0} (g : X → ℕ) (f : ℕ → X) (n : ℕ) → sum_by g (map f (range_with_len 0 n)) ≡ total (λ i. g (f i)) n
unfolding total
total_of_map g f zero = refl
total_of_map g f (suc n) =
    let e : suc n ≡ n + 1 = omega arith in
    ap (λ k. sum_by g (map f (range_with_len 0 k))) e ∙ sum_by-map-range_with_len_more g f 0 n n (omega arith)
    ∙ ap (λ t. t + g (f n)) (total_of_map g f n)

pub total_more : (g : ℕ → ℕ) (n : ℕ) → total g (n + 1) ≡ total g n + g n
unfolding total
total_more g n = let e : n + 1 ≡ suc n = omega arith in rw e refl

-- what is nothing from m on
pub total_cut : (g h : ℕ → ℕ) (m n : ℕ) → m ≤ n → ((i : ℕ) → i < m → g i ≡ h i) → ((i : ℕ) → m ≤ i → i < n → g i ≡ 0) → total g n ≡ total h m
unfolding total
total_cut g h zero zero le same none = refl
total_cut g h zero (suc n) le same none = omega (
  arith,
  total_cut g h zero n (omega arith) same (λ i a b. none i a (omega arith)),
  none n (omega arith) (omega arith),
)
total_cut g h (suc m) zero le same none = absurd (omega arith)
total_cut g h (suc m) (suc n) le same none =
    elim (cases_lt m n) [
      | inl less ↦ omega (arith, total_cut g h (suc m) n (omega arith) same (λ i a b. none i a (omega arith)), none n (omega arith) (omega arith))
      | inr all ↦
          let e : m ≡ n = omega arith in
          omega (arith, total_cut g h m n (omega arith) (λ i a. same i (omega arith)) (λ i a b. absurd (omega arith)), same m (omega arith), ap g e)
    ]

pub total_same : (g h : ℕ → ℕ) (n : ℕ) → ((i : ℕ) → i < n → g i ≡ h i) → total g n ≡ total h n
total_same g h n same = total_cut g h n n (omega arith) same (λ i a b. absurd (omega arith))

interval_step : (low high n t b : ℕ) → low ≤ high → b ≡ cond (nat_le low n && ltb n high) 1 0
    → t ≡ min n high - min n low → t + b ≡ min (n + 1) high - min (n + 1) low
interval_step low high n t b le at before = grind (arith, nat_tests, at, before)

-- how many numbers are from low on and below high
interval : (low high n : ℕ) → low ≤ high → total (λ i. cond (nat_le low i && ltb i high) 1 0) n ≡ min n high - min n low
unfolding total
interval low high zero le = omega arith
interval low high (suc n) le =
    let e : suc n ≡ n + 1 = omega arith in
    interval_step low high n (total (λ i. cond (nat_le low i && ltb i high) 1 0) n)
    (cond (nat_le low n && ltb n high) 1 0) le refl (interval low high n le)
    ∙ ap (λ k. min k high - min k low) (sym e)

pub total_of_interval : (g : ℕ → ℕ) (low r n : ℕ) → low + r ≤ n → ((i : ℕ) → i < n → g i ≡ cond (nat_le low i && ltb i (low + r)) 1 0) → total g n ≡ r
total_of_interval g low r n inside at =
    total_same g (λ i. cond (nat_le low i && ltb i (low + r)) 1 0) n at
    ∙ omega (arith, interval low (low + r) n (omega arith))
