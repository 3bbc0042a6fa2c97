-- Bytes as they are shown on a terminal.
use Rattle.std.specs.Prelude.{ℕ, ◌==◌, ◌&&◌, nat_le, nat_lt, if◌then◌else◌}

-- a byte as it is shown: printable ASCII as it is, a tab as a space, any other as a question mark
abbrev pub shown : ℕ → ℕ
shown c = if nat_le 32 c && nat_lt c 127 then c else (if c == 9 then 32 else 63)
