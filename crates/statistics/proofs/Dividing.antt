-- Quotients.
use Rattle.std.proofs.Common.{◌≡◌, ◌∙◌, ◌≤◌, ◌<◌, ◌+◌, ◌*◌, ◌/◌, ◌%◌, ◌^◌, ℕ, sym, ap, arith}
use Rattle.statistics.specs.internal.Kept.{most_squared}
use Rattle.std.proofs.Math.Nat.{mul-add-div, div-add-mod, div-le_of_le-mul, mul_left_comm, mul-add}

-- a product is divided without being taken: m * s / d
pub divided_in_parts : (m s d : ℕ) → 0 < d → m * (s / d) + m * (s % d) / d ≡ m * s / d
divided_in_parts m s d some =
    let e : d * (m * (s / d)) + m * (s % d) ≡ m * s =
    ap (λ n. n + m * (s % d)) (mul_left_comm d m (s / d))
    ∙ sym (mul-add m (d * (s / d)) (s % d))
    ∙ ap (λ n. m * n) (div-add-mod s d) in
    sym (mul-add-div some (m * (s / d)) (m * (s % d))) ∙ ap (λ n. n / d) e

-- millionths of a fraction of at most 2^40
pub millionths_fit : (s d : ℕ) → s ≤ d * most_squared → 1000000 * s / d < 2 ^ 68
millionths_fit s d whole =
    let h : 1000000 * s ≤ d * (1000000 * most_squared) = omega arith in
    omega (arith, div-le_of_le-mul d h)
