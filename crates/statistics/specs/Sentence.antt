-- The line above every table: how many deals of how many candidates.
use Rattle.std.specs.Prelude.{ℕ, ◌*◌, ◌==◌, ◌||◌, nat_lt, List, [], ◌++◌, codes, if◌then◌else◌}
use Rattle.statistics.specs.Columns.{commas}
use Rattle.statistics.specs.Rounded.{fraction, rounded}

-- per cent of the candidates, if there are any
abbrev pub share : ℕ → ℕ → List ℕ
share deals candidates =
    if candidates == 0 then [] else codes ": " ++ fraction 3 (100 * deals) candidates ++ codes " %"

-- one in how many, if that is two or more
abbrev pub one_in : ℕ → ℕ → List ℕ
one_in deals candidates =
    if deals == 0 || nat_lt (rounded candidates deals) 2 then []
    else codes ", one in " ++ commas (rounded candidates deals)

-- the sentence, without the end of its line
unfoldable pub sentence : ℕ → ℕ → List ℕ
sentence deals candidates =
    commas deals ++ codes " of " ++ commas candidates ++ codes " deals"
    ++ share deals candidates ++ one_in deals candidates
