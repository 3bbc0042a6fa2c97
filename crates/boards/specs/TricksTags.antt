-- What the values of three tags of a game tell of its board's tricks: DoubleDummyTricks,
-- OptimumScore and ParContract. A value is empty where there is no such tag.
use Rattle.std.specs.Prelude.{ℕ, ◌==◌, ◌&&◌, Bool, List, [], drop, nat_lt, take, length}
use Rattle.std.specs.Prelude.{if◌then◌else◌, slice_index}
use Rattle.boards.specs.TricksLines.{TricksView, are_points, are_tricks, is_contract, is_side}
use Rattle.boards.specs.TricksLines.{known, nothing_known}

-- a side, a space, and its points
abbrev pub is_score : List ℕ → Bool
is_score value =
    nat_lt 3 (length value)
    && (is_side (take 2 value) && (slice_index value 2 == 32 && are_points (drop 3 value)))

-- a contract is told only beside its score
abbrev pub scored : (tricks score contract : List ℕ) → TricksView
scored tricks score contract = known tricks score (if is_contract contract then contract else [])

-- and par only beside tricks
abbrev pub beside_tricks : (tricks score contract : List ℕ) → TricksView
beside_tricks tricks score contract =
    if is_score score then scored tricks score contract else known tricks [] []

-- what is told; nothing by a value that isn't of its form
unfoldable pub tagged : (tricks score contract : List ℕ) → TricksView
tagged tricks score contract =
    if are_tricks tricks then beside_tricks tricks score contract else nothing_known
