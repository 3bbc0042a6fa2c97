-- The items of one question are those of the answers.
use Rattle.std.proofs.Common.{◌≡◌, ◌<◌, ◌≤◌, ◌++◌, ◌∙◌, ℕ, List, [], codes, drop, if◌then◌else◌, length, sum, sym, ap, subst, append_assoc, arith}
use Rattle.std.specs.Prelude.{decimal}
use Rattle.std.specs.List.{flat_map}
use Rattle.conditions.specs.Questions.{is_condition}
use Rattle.statistics.specs.declared.sums.Sums.{Sums}
use Rattle.statistics.specs.Answers.{count_of, rows, squares}
use Rattle.statistics.specs.Counting.{TitledQuestion}
use Rattle.statistics.specs.Json.{json_one, json_sums, json_value}
use Rattle.statistics.specs.internal.Items.{one_json, one_start, sums_kept, value_kept, values_kept}
use Rattle.statistics.specs.internal.Kept.{CountsOne, IsKeptOne, IsListOf, KeptOne, sums_of}
use Rattle.statistics.specs.internal.Texts.{numbers_in, rows_shown}
use Rattle.statistics.proofs.Alike.{flat_map_alike, same_rows}
use Rattle.statistics.proofs.OneTable.{one_of, within_one}

abbrev of_answers : TitledQuestion → List ℕ → List ℕ
of_answers asked answers = flat_map (λ (n : ℕ). json_value n (count_of n answers)) (rows (is_condition asked.question) answers)

values_are : (asked : TitledQuestion) (counts answers : List ℕ) → IsKeptOne (one_of asked counts (sums_of answers)) → IsListOf (λ n. count_of n answers) counts
    → values_kept (one_of asked counts (sums_of answers)) ≡ of_answers asked answers
values_are asked counts answers kept h =
    let within = within_one asked counts (sums_of answers) kept in
    flat_map_alike (value_kept (one_of asked counts (sums_of answers))) (λ (n : ℕ). json_value n (count_of n answers))
    (rows_shown (is_condition asked.question) (sums_of answers))
    (λ k lt. ap (json_value k) (h k (omega (arith, within))))
    ∙ ap (flat_map (λ (n : ℕ). json_value n (count_of n answers))) (same_rows (is_condition asked.question) answers)

parts : (k s v o x e m z : List ℕ) → k ++ s ++ (v ++ o) ++ x ++ (e ++ m ++ z) ≡ k ++ s ++ v ++ (o ++ x ++ e) ++ m ++ z
parts k s v o x e m z = simp append_assoc

object_is : (asked : TitledQuestion) (answers : List ℕ) (xs : List ℕ)
    → one_start (one_of asked [] (sums_of answers)) ++ drop 1 xs ++ sums_kept (one_of asked [] (sums_of answers))
    ≡ codes "{\"of\":" ++ asked.string ++ codes ",\"values\":" ++ (codes "[" ++ drop 1 xs ++ codes "]")
    ++ json_sums (is_condition asked.question) answers ++ codes "}"
unfolding sums_kept
object_is asked answers xs =
    parts (codes "{\"of\":") asked.string (codes ",\"values\":") (codes "[") (drop 1 xs) (codes "]")
    (json_sums (is_condition asked.question) answers) (codes "}")

json_is : (asked : TitledQuestion) (counts answers : List ℕ) → IsKeptOne (one_of asked counts (sums_of answers)) → IsListOf (λ n. count_of n answers) counts
    → one_json (one_of asked counts (sums_of answers)) ≡ json_one (is_condition asked.question) asked.string answers
unfolding one_json json_one sums_kept
json_is asked counts answers kept h =
    ap (λ (xs : List ℕ). one_start (one_of asked counts (sums_of answers)) ++ drop 1 xs
    ++ sums_kept (one_of asked counts (sums_of answers))) (values_are asked counts answers kept h)
    ∙ object_is asked answers (of_answers asked answers)

pub one_json_is : (one : KeptOne) (answers : List ℕ) → IsKeptOne one → CountsOne one answers
    → one_json one ≡ json_one (is_condition one.asked.question) one.asked.string answers
one_json_is one answers kept h =
    let P : Sums → Type 0 = λ (s : Sums). IsKeptOne (one_of one.asked one.counts s)
    → one_json (one_of one.asked one.counts s) ≡ json_one (is_condition one.asked.question) one.asked.string answers in
    subst P (sym h.sums) (λ k. json_is one.asked one.counts answers k h.counts) kept
