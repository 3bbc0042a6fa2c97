-- Numbers, and texts in columns.
use Rattle.std.specs.Prelude.{ℕ, ◌-◌, ◌%◌, ◌==◌, ◌&&◌, nat_lt, Bool, List, [], ◌∷◌, ◌++◌}
use Rattle.std.specs.Prelude.{codes, decimal, if◌then◌else◌, length, replicate}
use Rattle.std.specs.List.{enumerate_from, flat_map}

-- a comma before digit i of n digits: of each group of three the first, but not of the whole
abbrev pub comma_at : ℕ → ℕ → List ℕ
comma_at i n = if nat_lt 0 i && (n - i) % 3 == 0 then codes "," else []

-- some digits, with commas
unfoldable pub grouped : List ℕ → List ℕ
grouped digits =
    flat_map (λ p. comma_at p.0 (length digits) ++ p.1 ∷ []) (enumerate_from 0 digits)

-- a number in decimal, with commas: 1,048,576
unfoldable pub commas : ℕ → List ℕ
commas n = grouped (decimal n)

-- a text at the right of a column
abbrev pub right : ℕ → List ℕ → List ℕ
right width text = replicate (width - length text) 0x20 ++ text

-- an answer: of a condition `no` or `yes`, of a value the number
abbrev pub no_or_yes : ℕ → List ℕ
no_or_yes n = if n == 0 then codes "no" else codes "yes"

abbrev pub label : Bool → ℕ → List ℕ
label is_condition n = if is_condition then no_or_yes n else commas n

-- and as a program reads it
abbrev pub plain_label : Bool → ℕ → List ℕ
plain_label is_condition n = if is_condition then no_or_yes n else decimal n

-- how many deals a cell has, or `-`
abbrev pub or_dash : ℕ → List ℕ
or_dash count = if count == 0 then codes "-" else commas count
