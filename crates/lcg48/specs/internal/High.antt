-- A state kept in the upper 48 bits of 64: the wrap of 64 bits is then the modulus.
use Rattle.std.proofs.Common.{◌≡◌, ℕ, ◌+◌, ◌*◌, ◌/◌, ◌%◌, ◌^◌, ◌∙◌, sym, ap, arith}
use Rattle.std.proofs.Math.Arith.{mod-mul}
use Rattle.std.proofs.Math.Nat.{mod-add-mod}
use Rattle.std.proofs.lemmas.Nat.{mul-mod_second}
use Rattle.lcg48.specs.Sequence.{step}

-- what is above sixteen bits that are zero is the number itself
pub high-low : (high : ℕ) → high % 2 ^ 16 ≡ 0 → high / 2 ^ 16 * 2 ^ 16 ≡ high
high-low high h = omega arith

in_two : (high : ℕ) → high % 2 ^ 64 ≡ high / 2 ^ 16 % 2 ^ 48 * 2 ^ 16 + high % 2 ^ 16
in_two high = mod-mul high (omega arith) (omega arith)

-- the wrap of 64 bits, above sixteen zeros, is the wrap of 48
wrapped : (n : ℕ) → n * 2 ^ 16 % 2 ^ 64 ≡ n % 2 ^ 48 * 2 ^ 16
wrapped n =
    let high : ℕ = n * 2 ^ 16 in
    let div : high / 2 ^ 16 ≡ n = omega arith in
    let rest : n % 2 ^ 48 * 2 ^ 16 + high % 2 ^ 16 ≡ n % 2 ^ 48 * 2 ^ 16 = omega arith in
    in_two high ∙ ap (λ d. d % 2 ^ 48 * 2 ^ 16 + high % 2 ^ 16) div ∙ rest

-- one step of the state above
abbrev high_after : ℕ → ℕ
high_after high = (25214903917 * high % 2 ^ 64 + 720896) % 2 ^ 64

pub high-step : (high new : ℕ) → high % 2 ^ 16 ≡ 0
    → new ≡ high_after high → new ≡ step (high / 2 ^ 16) * 2 ^ 16
high-step high new zero is =
    let x : ℕ = high / 2 ^ 16 in
    let e : 25214903917 * high + 720896 ≡ (25214903917 * x + 11) * 2 ^ 16 = omega arith in
    is
    ∙ mod-add-mod (25214903917 * high) (2 ^ 64) 720896
    ∙ ap (λ n. n % 2 ^ 64) e
    ∙ wrapped (25214903917 * x + 11)

-- two steps as one: (a * a) modulo 2^48 and a * c + c make it
abbrev twice_from : ℕ → ℕ
twice_from x = 205749139540585 * x + 277363943098

two_steps : (x : ℕ) → twice_from x % 2 ^ 48 ≡ step (step x)
two_steps x =
    let once : ℕ = 25214903917 * x + 11 in
    let twice : 25214903917 * once + 11 ≡ 2258784 * x * 2 ^ 48 + twice_from x = omega arith in
    let whole : (25214903917 * once + 11) % 2 ^ 48 ≡ twice_from x % 2 ^ 48 = omega (arith, twice) in
    sym whole
    ∙ sym (mod-add-mod (25214903917 * once) (2 ^ 48) 11)
    ∙ ap (λ n. (n + 11) % 2 ^ 48) (sym (mul-mod_second 25214903917 once (2 ^ 48)))
    ∙ mod-add-mod (25214903917 * (once % 2 ^ 48)) (2 ^ 48) 11

-- the same of the state above
abbrev high_after_two : ℕ → ℕ
high_after_two high = (205749139540585 * high % 2 ^ 64 + 18177323374870528) % 2 ^ 64

pub high-two_steps : (high new : ℕ) → high % 2 ^ 16 ≡ 0
    → new ≡ high_after_two high → new ≡ step (step (high / 2 ^ 16)) * 2 ^ 16
high-two_steps high new zero is =
    let x : ℕ = high / 2 ^ 16 in
    let e : 205749139540585 * high + 18177323374870528 ≡ twice_from x * 2 ^ 16 = omega arith in
    is
    ∙ mod-add-mod (205749139540585 * high) (2 ^ 64) 18177323374870528
    ∙ ap (λ n. n % 2 ^ 64) e
    ∙ wrapped (twice_from x)
    ∙ ap (λ n. n * 2 ^ 16) (two_steps x)

pub ruleset high_steps = (high-low, high-step, high-two_steps)
