-- The words after a space, and what may be told beside tricks.
use Rattle.std.specs.Prelude.{◌≡◌, ◌≤◌, ℕ, List, [], Option, None, Some, length}
use Rattle.boards.specs.TricksLines.{words_of}

-- the words of what comes after a word, if a space does
abbrev pub words_behind : Option (List ℕ) → List (List ℕ)
words_behind None = []
words_behind (Some after) = words_of after

-- a score and its contract are short, and there is no contract without a score
pub record IsScored (score contract : List ℕ) : Type 0 where
  pub short : length score ≤ 7
  pub few : length contract ≤ 24
  pub with_score : score ≡ [] → contract ≡ []
