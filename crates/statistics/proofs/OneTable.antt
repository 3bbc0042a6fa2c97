-- The table of what is kept is that of the answers.
use Rattle.std.proofs.Common.{◌≡◌, ◌<◌, ◌≤◌, ◌++◌, ◌∙◌, ℕ, Bool, List, [], length, get_or, sym, ap, ap₂, subst, arith, codes}
use Rattle.std.specs.List.{flat_map}
use Rattle.std.proofs.lemmas.List.{append-nil}
use Rattle.conditions.specs.Questions.{is_condition, rows_of}
use Rattle.statistics.specs.declared.one.table.Widths.{Widths}
use Rattle.statistics.specs.declared.line_style.LineStyle.TheVariants.{Csv, Table}
use Rattle.statistics.specs.declared.sums.Sums.{Sums}
use Rattle.statistics.specs.Answers.{count_of, most_in, rows}
use Rattle.statistics.specs.Counting.{TitledQuestion}
use Rattle.statistics.specs.Csv.{csv_one, csv_row}
use Rattle.statistics.specs.OneQuestion.{first_width, line, mean_line, one_table, row, second_width, table_rows}
use Rattle.statistics.specs.internal.Kept.{CountsOne, IsKeptOne, IsListOf, KeptOne, sums_of}
use Rattle.statistics.specs.internal.Texts.{AreWidths, most_of, one_head, one_row, one_tail, one_text, rows_shown}
use Rattle.statistics.proofs.Alike.{end_within, flat_map_alike, same_most, same_rows}

abbrev pub one_of : TitledQuestion → List ℕ → Sums → KeptOne
one_of asked counts sums = record { asked = asked; sums = sums; counts = counts }

row_same : (b : Bool) (f f' s s' m m' all n c c' : ℕ) → f ≡ f' → s ≡ s' → m ≡ m' → c ≡ c' → row b f s m all n c ≡ row b f' s' m' all n c'
row_same b f f' s s' m m' all n c c' ef es em ec =
    ap (λ (x : ℕ). row b x s m all n c) ef ∙ ap (λ (x : ℕ). row b f' x m all n c) es
    ∙ ap (λ (x : ℕ). row b f' s' x all n c) em ∙ ap (λ (x : ℕ). row b f' s' m' all n x) ec

pub within_one : (asked : TitledQuestion) (counts : List ℕ) (sums : Sums) → IsKeptOne (one_of asked counts sums)
    → (rows_shown (is_condition asked.question) sums).end ≤ length counts
within_one asked counts sums kept =
    let most : sums.greatest < rows_of asked.question = omega (arith, kept.rows, kept.within) in
    omega (arith, end_within asked.question sums most, kept.rows)

table_is : (asked : TitledQuestion) (counts answers : List ℕ) (widths : Widths)
    → IsKeptOne (one_of asked counts (sums_of answers)) → IsListOf (λ n. count_of n answers) counts
    → AreWidths (one_of asked counts (sums_of answers)) widths
    → one_text Table widths (one_of asked counts (sums_of answers)) ≡ one_table (is_condition asked.question)
    asked.title answers
unfolding one_text one_head one_row one_tail one_table table_rows
table_is asked counts answers widths kept h w =
    let b : Bool = is_condition asked.question in
    let within = within_one asked counts (sums_of answers) kept in
    let most : most_of counts (rows_shown (is_condition asked.question) (sums_of answers)) ≡ most_in
    (rows (is_condition asked.question) answers) answers =
    same_most (is_condition asked.question) counts answers h within in
    let second = w.second ∙ ap second_width most in
    ap₂ (λ (x y : List ℕ). x ++ y ++ mean_line (is_condition asked.question) answers)
    (ap₂ (λ (m n : ℕ). codes "\n" ++ asked.title ++ codes "\n" ++ line m n (codes "value") (codes "deals") (codes "%") []) w.first second)
    (flat_map_alike (one_row Table widths (one_of asked counts (sums_of answers)))
    (λ (n : ℕ). row (is_condition asked.question) (first_width (is_condition asked.question) answers)
    (second_width (most_in (rows (is_condition asked.question) answers) answers))
    (most_in (rows (is_condition asked.question) answers) answers) (length answers) n (count_of n answers))
    (rows_shown (is_condition asked.question) (sums_of answers))
    (λ k lt. row_same (is_condition asked.question) widths.first _ widths.second _ widths.most _ (length answers) k
    (get_or counts k 0) (count_of k answers) w.first second (w.most ∙ most) (h k (omega (arith, within))))
    ∙ ap (flat_map (λ (n : ℕ). row (is_condition asked.question) (first_width (is_condition asked.question) answers)
    (second_width (most_in (rows (is_condition asked.question) answers) answers))
    (most_in (rows (is_condition asked.question) answers) answers) (length answers) n (count_of n answers)))
    (same_rows (is_condition asked.question) answers))

csv_is : (asked : TitledQuestion) (counts answers : List ℕ) (widths : Widths)
    → IsKeptOne (one_of asked counts (sums_of answers)) → IsListOf (λ n. count_of n answers) counts
    → one_text Csv widths (one_of asked counts (sums_of answers)) ≡ csv_one (is_condition asked.question) answers
unfolding one_text one_head one_row one_tail csv_one
csv_is asked counts answers widths kept h =
    let within = within_one asked counts (sums_of answers) kept in
    append-nil _
    ∙ ap (λ (xs : List ℕ). codes "value,deals\n" ++ xs)
    (flat_map_alike (one_row Csv widths (one_of asked counts (sums_of answers)))
    (λ (n : ℕ). csv_row (is_condition asked.question) n (count_of n answers))
    (rows_shown (is_condition asked.question) (sums_of answers)) (λ k lt. ap (csv_row (is_condition asked.question) k) (h k (omega (arith, within))))
    ∙ ap (flat_map (λ (n : ℕ). csv_row (is_condition asked.question) n (count_of n answers))) (same_rows (is_condition asked.question) answers))

pub one_table_is : (one : KeptOne) (answers : List ℕ) (widths : Widths) → IsKeptOne one → CountsOne one answers → AreWidths one widths
    → one_text Table widths one ≡ one_table (is_condition one.asked.question) one.asked.title answers
one_table_is one answers widths kept h w =
    let P : Sums → Type 0 = λ (s : Sums). IsKeptOne (one_of one.asked one.counts s) → AreWidths (one_of one.asked one.counts s) widths
    → one_text Table widths (one_of one.asked one.counts s) ≡ one_table (is_condition one.asked.question) one.asked.title answers in
    subst P (sym h.sums) (λ k v. table_is one.asked one.counts answers widths k h.counts v) kept w

pub one_csv_is : (one : KeptOne) (answers : List ℕ) (widths : Widths) → IsKeptOne one → CountsOne one answers
    → one_text Csv widths one ≡ csv_one (is_condition one.asked.question) answers
one_csv_is one answers widths kept h =
    let P : Sums → Type 0 = λ (s : Sums). IsKeptOne (one_of one.asked one.counts s)
    → one_text Csv widths (one_of one.asked one.counts s) ≡ csv_one (is_condition one.asked.question) answers in
    subst P (sym h.sums) (λ k. csv_is one.asked one.counts answers widths k h.counts) kept
