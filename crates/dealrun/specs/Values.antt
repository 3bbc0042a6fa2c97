-- The text of a stream of `nrand48` values (POSIX.1-2017, `drand48`).
use Rattle.std.specs.Prelude.{ℕ, List, [], ◌∷◌, ◌++◌, decimal}
use Rattle.std.specs.List.{flat_map, range_with_len}
use Rattle.lcg48.specs.Sequence.{state_at, value_of}

-- a number in decimal and a line feed
abbrev pub line : ℕ → List ℕ
line n = decimal n ++ 10 ∷ []

-- the first n values of a seed, a line each
unfoldable pub lines : ℕ → ℕ → List ℕ
lines seed n = flat_map (λ i. line (value_of (state_at seed i))) (range_with_len 1 n)
