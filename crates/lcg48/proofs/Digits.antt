-- Jumps by the digits of their length.
use Rattle.std.proofs.Common.{◌≡◌, ◌∙◌, ℕ, ◌+◌, ◌*◌, ◌/◌, ◌%◌, ◌^◌, ◌<◌, ◌≤◌, List, get_or, length, set, refl, ap}
use Rattle.std.proofs.Common.{arith, mul-le-mul, pow-add, pow_mono, sym, inl, inr}
use Rattle.std.proofs.lemmas.Bool.{cases_eq}
use Rattle.std.proofs.lemmas.List.{get_or-set_same, get_or-set_other}
use Rattle.lcg48.specs.Sequence.{state_after}
use Rattle.lcg48.specs.internal.Jumps.{IsTable, length_at, unit_of}
use Rattle.lcg48.proofs.Walks.{state_after-add, state_after-none}

-- so many steps were made, and what is left of all counts in this place
pub record JumpsOn (from all place state rest : ℕ) : Type 0 where
  pub done : ℕ
  pub is : state ≡ state_after from done
  pub left : done + rest * unit_of place ≡ all

next_unit : (place : ℕ) → unit_of (place + 1) ≡ 16 * unit_of place
next_unit place =
    let e : (place + 1) * 4 ≡ place * 4 + 4 = omega arith in
    ap (λ n. 2 ^ n) e ∙ pow-add 2 (place * 4) 4 ∙ (let f : 2 ^ (place * 4) * 2 ^ 4 ≡ 16 * 2 ^ (place * 4) = omega arith in f)

-- the length in the table at this place and digit
length_of : (place digit : ℕ) → digit < 16 → length_at (16 * place + digit) ≡ digit * unit_of place
length_of place digit small =
    let low : (16 * place + digit) % 16 ≡ digit = omega arith in
    let high : (16 * place + digit) / 16 ≡ place = omega arith in
    rw (low, high) refl

pub jumps_none : (from all : ℕ) → JumpsOn from all 0 from all
jumps_none from all = record {
  done = 0;
  is = sym (state_after-none from);
  left = omega arith;
}

pub jumps_more : (from all place state rest next length : ℕ) → JumpsOn from all place state rest
    → next ≡ state_after state length → length ≡ length_at (16 * place + rest % 16)
    → JumpsOn from all (place + 1) next (rest / 16)
jumps_more from all place state rest next length j next_is length_is =
    let digit : ℕ = rest % 16 in
    let unit : ℕ = unit_of place in
    let small : rest % 16 < 16 = omega arith in
    let len : length ≡ digit * unit = length_is ∙ length_of place digit small in
    let parts : rest ≡ rest / 16 * 16 + digit = omega arith in
    let whole : rest * unit ≡ (rest / 16 * 16 + digit) * unit = ap (λ n. n * unit) parts in
    record {
      done = j.done + length;
      is = next_is ∙ ap (λ x. state_after x length) j.is ∙ state_after-add from j.done length;
      left = rw (next_unit place) (omega (arith, whole, len, j.left));
    }

pub jumps_all : (from all state rest : ℕ) → all < 2 ^ 48 → JumpsOn from all 12 state rest → state ≡ state_after from all
jumps_all from all state rest few j =
    let none : j.done ≡ all = omega (arith, j.left, few) in
    j.is ∙ ap (state_after from) none

-- a stride more stands in the table
pub table_more : (strides : List ℕ) (index stride : ℕ) → index < length strides → stride ≡ length_at index
    → IsTable strides index → IsTable (set strides index stride) (index + 1)
table_more strides index stride inside is table i d lt =
    elim (cases_eq i index) [
      | inl here ↦ ap (λ k. get_or (set strides index stride) k d) here ∙ get_or-set_same strides index stride d inside ∙ is ∙ sym (ap length_at here)
      | inr other ↦ get_or-set_other strides index i stride d other ∙ table i d (omega (arith, lt, other))
    ]

-- a digit at its place is below 2^48
pub small_length : (index : ℕ) → index < 192 → index % 16 * unit_of (index / 16) < 2 ^ 48
small_length index lt =
    let place : ℕ = index / 16 in
    let low : place * 4 ≤ 44 = omega arith in
    let unit : unit_of place ≤ 2 ^ 44 = pow_mono low in
    let most : index % 16 ≤ 15 = omega arith in
    let product : index % 16 * unit_of place ≤ 15 * 2 ^ 44 = mul-le-mul most unit in
    omega (arith, product)
