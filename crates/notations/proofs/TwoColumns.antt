-- A number in two columns.
use Rattle.std.proofs.Common.{◌≡◌, ℕ, ◌+◌, ◌/◌, ◌%◌, ◌-◌, ◌<◌, ◌≤◌, ◌^◌, List, [], ◌∷◌, ◌++◌, length, decimal, ap, arith}
use Rattle.std.proofs.lemmas.Fmt.{decimal_digit, decimal_nonempty, decimal_step}
use Rattle.std.proofs.lemmas.List.{length-append}
use Rattle.notations.specs.Columns.{spaces, two_columns}

pub one_digit : (n : ℕ) → n < 10 → two_columns n ≡ 32 ∷ (48 + n) ∷ []
one_digit n small = ap (λ digits. spaces (2 - length digits) ++ digits) (decimal_digit n small)

no_gap : (digits : List ℕ) → 2 ≤ length digits → spaces (2 - length digits) ++ digits ≡ digits
no_gap digits two =
    let none : 2 - length digits ≡ 0 = omega (arith, two) in
    ap (λ n. spaces n ++ digits) none

pub two_digits : (n : ℕ) → 10 ≤ n → n < 2 ^ 64 → two_columns n ≡ decimal n
two_digits n large fits =
    let front : List ℕ = decimal (n / 10) in
    let last : List ℕ = (48 + n % 10) ∷ [] in
    no_gap (decimal n) (omega (
      arith,
      ap length (decimal_step n large fits),
      length-append front last,
      decimal_nonempty (n / 10) (omega (arith, fits)),
    ))
