-- A text of a person's as it is shown on a terminal.
use Rattle.std.specs.Prelude.{ℕ, List, ◌++◌, codes, length, map, nat_le, take, if◌then◌else◌}
use Rattle.sinks.specs.Shown.{shown}

-- a text as it is shown; of more than 72 bytes the first 70, and two dots
abbrev pub cut_text : List ℕ → List ℕ
cut_text text =
    if nat_le (length text) 72 then map shown text
    else map shown (take 70 text) ++ codes ".."
