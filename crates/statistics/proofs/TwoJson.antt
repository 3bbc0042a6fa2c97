-- The items of two questions are those of the pairs.
use Rattle.std.proofs.Common.{◌≡◌, ◌<◌, ◌≤◌, ◌++◌, ◌∙◌, ℕ, List, codes, drop, length, sym, ap, append_assoc, arith}
use Rattle.std.specs.List.{flat_map}
use Rattle.conditions.specs.Questions.{is_condition}
use Rattle.statistics.specs.Answers.{rows}
use Rattle.statistics.specs.Json.{json_pair, json_two}
use Rattle.statistics.specs.TwoQuestions.{Pairs, cell, columns, of_columns, of_rows}
use Rattle.statistics.specs.internal.Items.{pair_kept, pairs_kept, row_kept, two_json, two_start}
use Rattle.statistics.specs.internal.Kept.{CountsTwo, IsKeptTwo, KeptTwo}
use Rattle.statistics.specs.internal.Lines.{kinds_kept}
use Rattle.statistics.specs.internal.PageLines.{columns_of_two}
use Rattle.statistics.specs.internal.Texts.{rows_of_one}
use Rattle.statistics.proofs.Alike.{flat_map_alike, same_rows}
use Rattle.statistics.proofs.TwoTable.{Tells, tells, told, told_is}

abbrev row_of_pairs : KeptTwo → Pairs → ℕ → List ℕ
row_of_pairs two pairs n = flat_map (λ (m : ℕ). json_pair n m (cell pairs n m)) (columns (kinds_kept two) pairs)

abbrev of_pairs : KeptTwo → Pairs → List ℕ
of_pairs two pairs = flat_map (row_of_pairs two pairs) (rows (is_condition two.of.asked.question) (of_rows pairs))

row_is : (two : KeptTwo) (pairs : Pairs) (n : ℕ) → Tells two pairs → n < length two.of.counts → row_kept (told two pairs) n ≡ row_of_pairs two pairs n
row_is two pairs n h low =
    flat_map_alike (pair_kept (told two pairs) n) (λ (m : ℕ). json_pair n m (cell pairs n m)) (columns_of_two (told two pairs))
    (λ m lt. ap (json_pair n m) (h.cells n m low (omega (arith, h.columns))))
    ∙ ap (flat_map (λ (m : ℕ). json_pair n m (cell pairs n m))) (same_rows (is_condition two.by.question) (of_columns pairs))

pairs_are : (two : KeptTwo) (pairs : Pairs) → Tells two pairs → pairs_kept (told two pairs) ≡ of_pairs two pairs
pairs_are two pairs h =
    flat_map_alike (row_kept (told two pairs)) (row_of_pairs two pairs) (rows_of_one (told two pairs).of)
    (λ n lt. row_is two pairs n h (omega (arith, h.rows)))
    ∙ ap (flat_map (row_of_pairs two pairs)) (same_rows (is_condition two.of.asked.question) (of_rows pairs))

parts : (a s b t v o x e z : List ℕ) → a ++ s ++ b ++ (t ++ (v ++ o)) ++ x ++ (e ++ z) ≡ a ++ s ++ b ++ t ++ v ++ (o ++ x ++ e) ++ z
parts a s b t v o x e z = simp append_assoc

object_is : (two : KeptTwo) (xs : List ℕ)
    → two_start two ++ drop 1 xs ++ codes "]}"
    ≡ codes "{\"of\":" ++ two.of.asked.string ++ codes ",\"by\":" ++ two.by.string ++ codes ",\"values\":"
    ++ (codes "[" ++ drop 1 xs ++ codes "]") ++ codes "}"
object_is two xs =
    parts (codes "{\"of\":") two.of.asked.string (codes ",\"by\":") two.by.string (codes ",\"values\":") (codes "[")
    (drop 1 xs) (codes "]") (codes "}")

json_is : (two : KeptTwo) (pairs : Pairs) → Tells two pairs
    → two_json (told two pairs) ≡ json_two (kinds_kept two) two.of.asked.string two.by.string pairs
unfolding two_json json_two
json_is two pairs h =
    ap (λ (xs : List ℕ). two_start two ++ drop 1 xs ++ codes "]}") (pairs_are two pairs h) ∙ object_is two (of_pairs two pairs)

pub two_json_is : (two : KeptTwo) (pairs : Pairs) → IsKeptTwo two → CountsTwo two pairs
    → two_json two ≡ json_two (kinds_kept two) two.of.asked.string two.by.string pairs
two_json_is two pairs kept h = ap two_json (sym (told_is two pairs h)) ∙ json_is two pairs (tells two pairs kept h)
