-- Fractions and roots as they are written.
use Rattle.std.specs.Prelude.{ℕ, zero, suc, ◌+◌, ◌*◌, ◌/◌, ◌%◌, ◌^◌, nat_le, List, [], ◌∷◌, ◌++◌, codes}
use Rattle.std.specs.Prelude.{count_by}
use Rattle.std.specs.List.{range_with_len}
use Rattle.statistics.specs.Columns.{commas}

-- a / b as a whole number, the half up: 5 / 2 is 3
abbrev pub rounded : ℕ → ℕ → ℕ
rounded a b = (2 * a + b) / (2 * b)

-- the last this many digits of a number, zeros included
abbrev pub last_digits : ℕ → ℕ → List ℕ
last_digits zero n = []
last_digits (suc count) n = last_digits count (n / 10) ++ (0x30 + n % 10) ∷ []

-- a number of thousandths, if `digits` is 3: its whole part, a point, and the digits
abbrev pub with_point : ℕ → ℕ → List ℕ
with_point digits n =
    commas (n / 10 ^ digits) ++ codes "." ++ last_digits digits (n % 10 ^ digits)

-- a / b, rounded to this many digits
abbrev pub fraction : ℕ → ℕ → ℕ → List ℕ
fraction digits a b = with_point digits (rounded (10 ^ digits * a) b)

-- the whole square root: how many numbers from 1 on have a square of at most n
unfoldable pub whole_root : ℕ → ℕ
whole_root n = count_by (λ k. nat_le (k * k) n) (range_with_len 1 n)
