-- Runs of bytes of one kind.
use Rattle.std.specs.Prelude.{ℕ, suc, Bool, if◌then◌else◌, List, [], ◌∷◌}

-- how many such bytes the text begins with
abbrev pub run : (ℕ → Bool) → List ℕ → ℕ
run f [] = 0
run f (c ∷ s) = if f c then suc (run f s) else 0
