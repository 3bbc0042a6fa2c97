-- Lines in columns. A column is a character, counted from 0; texts are UTF-8.
use Rattle.std.specs.Prelude.{ℕ, ◌-◌, max, nat_lt, nat_le, ◌||◌, Bool, List, ◌++◌, codes}
use Rattle.std.specs.Prelude.{count_by, decimal, length, replicate}

-- whether a character begins with this byte: the bytes that go on with one are 0x80 to 0xBF
abbrev pub begins_character : ℕ → Bool
begins_character byte = nat_lt byte 0x80 || nat_le 0xC0 byte

-- how many characters a text has
abbrev pub columns : List ℕ → ℕ
columns text = count_by begins_character text

abbrev pub spaces : ℕ → List ℕ
spaces count = replicate count 0x20

-- the text, filled up with spaces to the column where the next one begins, at least one
abbrev pub filled_to : ℕ → List ℕ → List ℕ
filled_to column text = text ++ spaces (max 1 (column - columns text))

-- a number of one or two digits, in two columns
abbrev pub two_columns : ℕ → List ℕ
two_columns number = spaces (2 - length (decimal number)) ++ decimal number

abbrev pub line : List ℕ → List ℕ
line text = text ++ codes "\n"

-- a line of two texts, the second from this column on
abbrev pub beside : ℕ → List ℕ → List ℕ → List ℕ
beside column left right = line (filled_to column left ++ right)
