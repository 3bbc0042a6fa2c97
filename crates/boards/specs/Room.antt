-- How much room a text takes at most where a character of ASCII may be written as this many bytes,
-- as in a page.
use Rattle.std.specs.Prelude.{ℕ, ◌+◌, List, [], ◌∷◌, if◌then◌else◌, nat_lt}

abbrev pub room_of : (wide byte : ℕ) → ℕ
room_of wide byte = if nat_lt byte 128 then wide else 1

abbrev pub room : (wide : ℕ) → List ℕ → ℕ
room wide [] = 0
room wide (byte ∷ text) = room_of wide byte + room wide text
