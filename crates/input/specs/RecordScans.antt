-- What a text spells from where it was scanned to.
use Rattle.std.specs.Prelude.{ℕ, ◌+◌, List, ◌∷◌, if◌then◌else◌}
use Rattle.input.specs.NumberTexts.{first_line, later_lines, with_lf}
use Rattle.input.specs.Texts.{InRoom, Spelled, line_spells, lines_spell}
use Rattle.input.specs.declared.records.reading.Reading.{Reading}
use Rattle.input.specs.declared.records.scanner.RecordScanner.{RecordScanner}

-- from within a line on, with LF for each CR LF
abbrev pub spells_in : Reading → List ℕ → Spelled
spells_in s rest = line_spells s (first_line rest) (λ t. lines_spell t (later_lines rest))

unfoldable pub spells_from : RecordScanner → List ℕ → Spelled
spells_from s rest = spells_in s.reading (with_lf (if s.after_cr then 13 ∷ rest else rest))

-- it comes from this many bytes
abbrev pub IsWithin : RecordScanner → ℕ → Type 0
IsWithin s bytes = InRoom s.reading (bytes + bytes)
