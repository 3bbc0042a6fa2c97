-- The items of an array as they are written, one after the other.
use Rattle.std.specs.Prelude.{ℕ, Bool, true, false, List, [], ◌∷◌, ◌++◌, codes, decimal, drop}
use Rattle.std.specs.Prelude.{if◌then◌else◌, slice_index}
use Rattle.std.specs.List.{flat_map}
use Rattle.statistics.specs.Json.{json_pair, json_value}
use Rattle.statistics.specs.internal.Kept.{KeptOne, KeptTwo, cell_at}
use Rattle.statistics.specs.internal.PageLines.{columns_of_two}
use Rattle.statistics.specs.internal.Texts.{asks_condition, numbers_in, rows_of_one}

-- each item has a comma before it, and the first is written without it, unless some item was
-- written before
abbrev pub after : Bool → List ℕ → List ℕ
after any items = if any then items else drop 1 items

abbrev pub has_some : List ℕ → Bool
has_some [] = false
has_some (byte ∷ items) = true

-- the items of one question
abbrev pub value_kept : KeptOne → ℕ → List ℕ
value_kept one n = json_value n (slice_index one.counts n)

abbrev pub values_kept : KeptOne → List ℕ
values_kept one = flat_map (value_kept one) (numbers_in (rows_of_one one))

-- what is before them, and after them
abbrev pub one_start : KeptOne → List ℕ
one_start one = codes "{\"of\":" ++ one.asked.string ++ codes ",\"values\":["

unfoldable pub sums_kept : KeptOne → List ℕ
sums_kept one =
    codes "]"
    ++ (if asks_condition one then []
    else codes ",\"sum\":" ++ decimal one.sums.sum
    ++ codes ",\"squares\":" ++ decimal one.sums.squares)
    ++ codes "}"

unfoldable pub one_json : KeptOne → List ℕ
one_json one = one_start one ++ drop 1 (values_kept one) ++ sums_kept one

-- the items of two questions: those of a row, and all
abbrev pub pair_kept : KeptTwo → ℕ → ℕ → List ℕ
pair_kept two n m = json_pair n m (cell_at two n m)

abbrev pub row_kept : KeptTwo → ℕ → List ℕ
row_kept two n = flat_map (pair_kept two n) (numbers_in (columns_of_two two))

abbrev pub pairs_kept : KeptTwo → List ℕ
pairs_kept two = flat_map (row_kept two) (numbers_in (rows_of_one two.of))

abbrev pub two_start : KeptTwo → List ℕ
two_start two =
    (codes "{\"of\":" ++ two.of.asked.string ++ codes ",\"by\":")
    ++ (codes "" ++ two.by.string ++ codes ",\"values\":[")

unfoldable pub two_json : KeptTwo → List ℕ
two_json two = two_start two ++ drop 1 (pairs_kept two) ++ codes "]}"
