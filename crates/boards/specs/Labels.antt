-- What a label line has between its quotes.
use Rattle.std.specs.Prelude.{◌≡◌, ◌≢◌, ℕ, ◌≤◌, List, ◌++◌, length, codes}
use Rattle.std.specs.List.{All}

-- a printable character of ASCII other than the quote and the backslash
abbrev pub IsLabelByte : ℕ → Type 0
IsLabelByte byte = (0x20 ≤ byte) × (byte ≤ 0x7E) × (byte ≢ 0x22) × (byte ≢ 0x5C)

-- at most 100 of them
pub record IsLabel (text : List ℕ) : Type 0 where
  pub short : length text ≤ 100
  pub printable : All IsLabelByte text

-- n digits of ASCII
pub record AreDigits (n : ℕ) (text : List ℕ) : Type 0 where
  pub count : length text ≡ n
  pub digits : All (λ byte. (0x30 ≤ byte) × (byte ≤ 0x39)) text

-- YYYY.MM.DD: a year, a month and a day with dots in between; no calendar is consulted
pub record IsDate (text : List ℕ) : Type 0 where
  pub year : List ℕ
  pub month : List ℕ
  pub day : List ℕ
  pub whole : text ≡ year ++ codes "." ++ month ++ codes "." ++ day
  pub year_digits : AreDigits 4 year
  pub month_digits : AreDigits 2 month
  pub day_digits : AreDigits 2 day
