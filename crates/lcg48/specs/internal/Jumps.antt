-- A table of strides for each digit in base 16.
use Rattle.std.specs.Prelude.{◌≡◌, ℕ, ◌*◌, ◌/◌, ◌%◌, ◌^◌, ◌<◌, List, slice_index_or}

-- what the digit at place p counts: 16 to the power of p
abbrev pub unit_of : ℕ → ℕ
unit_of place = 2 ^ (place * 4)

-- the stride of place p and digit d is at 16 * p + d
abbrev pub length_at : ℕ → ℕ
length_at index = index % 16 * unit_of (index / 16)

-- the first n of the table
abbrev pub IsTable : List ℕ → ℕ → Type 0
IsTable strides n = (i d : ℕ) → i < n → slice_index_or strides i d ≡ length_at i
