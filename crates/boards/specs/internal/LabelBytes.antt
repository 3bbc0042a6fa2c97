-- How labels and dates are kept and tested: no part of what a label or a date is.
use Rattle.std.specs.Prelude.{◌≡◌, ◌≢◌, ℕ, ◌-◌, ◌≤◌, List, ◌++◌, length, take, replicate}
use Rattle.boards.specs.Labels.{IsLabel}

-- bytes 4 and 7 of a date are dots, and the others are digits
abbrev pub FitsDate : ℕ → ℕ → Type 0
FitsDate i byte =
    (i ≡ 4 → byte ≡ 0x2E) × (i ≡ 7 → byte ≡ 0x2E) × (i ≢ 4 → i ≢ 7 → (0x30 ≤ byte) × (byte ≤ 0x39))

-- a label as 100 bytes, filled up with zeros
abbrev pub padded_label : List ℕ → List ℕ
padded_label text = text ++ replicate (100 - length text) 0

-- the bytes and the length of a label
pub record IsPadded (bytes : List ℕ) (len : ℕ) : Type 0 where
  pub label : IsLabel (take len bytes)
  pub count : length (take len bytes) ≡ len
  pub rest : bytes ≡ padded_label (take len bytes)
