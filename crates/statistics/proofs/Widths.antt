-- How long a number with commas is.
use Rattle.std.proofs.Common.{◌≡◌, ◌∙◌, ◌≤◌, ◌<◌, ◌+◌, ◌-◌, ◌/◌, ◌%◌, ◌^◌, ◌++◌, ◌∷◌, [], ℕ, zero, suc, List, length}
use Rattle.std.proofs.Common.{take, inl, inr, sym, ap, arith, length-append, eq-zero-or-pos}
use Rattle.std.specs.Prelude.{decimal}
use Rattle.std.proofs.lemmas.Bool.Decides.{nat_tests}
use Rattle.std.proofs.lemmas.Fmt.{decimal_by_steps, decimal_digit, decimal_step, decimal_nonempty, length-decimal-le}
use Rattle.std.proofs.lemmas.List.{take_all}
use Rattle.statistics.specs.Columns.{comma_at, commas, grouped}
use Rattle.statistics.proofs.Appending.{groups, groups_all, groups_more, groups_none}

-- a comma takes one of the groups that are left
comma_length : (i n : ℕ) → 0 < i → i < n → length (comma_at i n) + (n - (i + 1)) / 3 ≡ (n - i) / 3
comma_length i n some below = grind (arith, nat_tests)

groups_length_more : (digits : List ℕ) (i : ℕ) → i < length digits
    → length (groups (length digits) (take (i + 1) digits)) ≡ length (groups (length digits) (take i digits)) + length
    (comma_at i (length digits)) + 1
groups_length_more digits i h =
    omega (arith, ap length (groups_more (length digits) digits i h), length-append {A = ℕ})

-- the first digits, at least one
groups_length : (digits : List ℕ) (i : ℕ) → suc i ≤ length digits
    → length (groups (length digits) (take (suc i) digits)) + (length digits - suc i) / 3 ≡ suc i
    + (length digits - 1) / 3
groups_length digits zero h =
    let first = groups_length_more digits 0 (omega arith) in
    let none : length (groups (length digits) []) ≡ 0 = ap length (groups_none (length digits)) in
    omega (arith, first, none)
groups_length digits (suc i) h =
    let more = groups_length_more digits (suc i) (omega arith) in
    let e : suc i + 1 ≡ suc (suc i) = omega arith in
    omega (arith, rw e at more, groups_length digits i (omega arith), comma_length (suc i) (length digits) (omega arith) (omega arith))

-- all digits
grouped_length : (digits : List ℕ) → 0 < length digits → length (grouped digits) ≡ length digits + (length digits - 1) / 3
grouped_length digits some =
    let n = length digits in
    let e : suc (n - 1) ≡ n = omega arith in
    let all = groups_length digits (n - 1) (omega arith) in
    let whole : take n digits ≡ digits = take_all n digits (omega arith) in
    let same : length (grouped digits) ≡ length (groups n (take n digits)) =
    ap length (groups_all digits) ∙ ap (λ l. length (groups n l)) (sym whole) in
    omega (arith, rw e at all, same)

pub commas_length : (n : ℕ) → n < 2 ^ 64 → length (commas n) ≡ length (decimal n) + (length (decimal n) - 1) / 3
unfolding commas
commas_length n small = grouped_length (decimal n) (decimal_nonempty n small)

-- a number has at most twenty digits
pub commas_fit : (n : ℕ) → n < 2 ^ 64 → length (commas n) ≤ 26
commas_fit n small = omega (arith, commas_length n small, length-decimal-le 20 n (omega arith) (omega arith) small)

-- these digits are at least as many as those of each number up to n
abbrev AreWideFor : ℕ → List ℕ → Type 0
AreWideFor n digits = (m : ℕ) → m ≤ n → m < 2 ^ 64 → length (decimal m) ≤ length digits

wide_digit : (n : ℕ) → n < 10 → AreWideFor n ((48 + n) ∷ [])
wide_digit n digit m below small = let e = ap length (decimal_digit m (omega arith)) in omega (arith, e)

wide_more : (n : ℕ) (digits : List ℕ) → 10 ≤ n → AreWideFor (n / 10) digits → AreWideFor n (digits ++ (48 + n % 10) ∷ [])
wide_more n digits large wide m below small =
    let len = length-append digits ((48 + n % 10) ∷ []) in
    elim (eq-zero-or-pos (m / 10)) [
      | inl none ↦ let e = ap length (decimal_digit m (omega arith)) in omega (arith, e, len)
      | inr some ↦
          let e = ap length (decimal_step m (omega arith) small) ∙ length-append (decimal (m / 10)) ((48 + m % 10) ∷ []) in
          let rest = wide (m / 10) (omega arith) (omega arith) in
          omega (arith, e, len, rest)
    ]

decimal_wide : (n : ℕ) → n < 2 ^ 64 → AreWideFor n (decimal n)
decimal_wide n small = decimal_by_steps AreWideFor wide_digit wide_more n small

pub commas_wide : (m n : ℕ) → m ≤ n → n < 2 ^ 64 → length (commas m) ≤ length (commas n)
commas_wide m n below small =
    let few : m < 2 ^ 64 = omega arith in
    omega (arith, commas_length m few, commas_length n small, decimal_wide n small m below few)
