-- The numbered lines of one question are those of the answers.
use Rattle.std.proofs.Common.{◌≡◌, ◌<◌, ◌≤◌, ◌∙◌, ℕ, List, length, sym, ap, subst, arith}
use Rattle.std.specs.List.{flat_map}
use Rattle.conditions.specs.Questions.{is_condition}
use Rattle.statistics.specs.declared.sums.Sums.{Sums}
use Rattle.statistics.specs.Answers.{count_of}
use Rattle.statistics.specs.Counting.{TitledQuestion}
use Rattle.statistics.specs.Csv.{csv_numbered, csv_numbered_row}
use Rattle.statistics.specs.internal.Kept.{CountsOne, IsKeptOne, IsListOf, KeptOne, sums_of}
use Rattle.statistics.specs.internal.Parts.{numbered_kept}
use Rattle.statistics.specs.internal.Texts.{numbers_in, rows_of_one, rows_shown}
use Rattle.statistics.proofs.Alike.{flat_map_alike, same_rows}
use Rattle.statistics.proofs.OneTable.{one_of, within_one}

lines_are : (question : ℕ) (asked : TitledQuestion) (counts answers : List ℕ)
    → IsKeptOne (one_of asked counts (sums_of answers)) → IsListOf (λ n. count_of n answers) counts
    → flat_map (numbered_kept question (one_of asked counts (sums_of answers)))
    (numbers_in (rows_of_one (one_of asked counts (sums_of answers)))) ≡ csv_numbered question
    (is_condition asked.question) answers
unfolding csv_numbered
lines_are question asked counts answers kept h =
    let within = within_one asked counts (sums_of answers) kept in
    flat_map_alike (numbered_kept question (one_of asked counts (sums_of answers)))
    (λ (n : ℕ). csv_numbered_row question (is_condition asked.question) n (count_of n answers))
    (rows_shown (is_condition asked.question) (sums_of answers))
    (λ k lt. ap (csv_numbered_row question (is_condition asked.question) k) (h k (omega (arith, within))))
    ∙ ap (flat_map (λ (n : ℕ). csv_numbered_row question (is_condition asked.question) n (count_of n answers)))
    (same_rows (is_condition asked.question) answers)

pub numbered_is : (question : ℕ) (one : KeptOne) (answers : List ℕ) → IsKeptOne one → CountsOne one answers
    → flat_map (numbered_kept question one) (numbers_in (rows_of_one one)) ≡ csv_numbered question (is_condition one.asked.question) answers
numbered_is question one answers kept h =
    let P : Sums → Type 0 = λ (s : Sums). IsKeptOne (one_of one.asked one.counts s)
    → flat_map (numbered_kept question (one_of one.asked one.counts s))
    (numbers_in (rows_of_one (one_of one.asked one.counts s))) ≡ csv_numbered question
    (is_condition one.asked.question) answers in
    subst P (sym h.sums) (λ k. lines_are question one.asked one.counts answers k h.counts) kept
