-- Which lines a text has.
use Rattle.std.specs.Prelude.{ℕ, List, [], ◌∷◌}
use Rattle.input.specs.NumberTexts.{lines_of}

-- the lines of a text, each up to LF or CR LF: an empty one at its end is none
abbrev pub unless_empty : List ℕ → List (List ℕ)
unless_empty [] = []
unless_empty (b ∷ bs) = (b ∷ bs) ∷ []

abbrev pub without_empty_end : List (List ℕ) → List (List ℕ)
without_empty_end [] = []
without_empty_end (l ∷ []) = unless_empty l
without_empty_end (l ∷ (m ∷ ms)) = l ∷ without_empty_end (m ∷ ms)

abbrev pub text_lines : List ℕ → List (List ℕ)
text_lines text = without_empty_end (lines_of text)
