-- The page of what is kept of one question is that of the answers.
use Rattle.std.proofs.Common.{◌≡◌, ◌++◌, ◌∙◌, ℕ, List, length, sym, ap, ap₂, subst, arith, codes, append_assoc}
use Rattle.std.specs.List.{flat_map}
use Rattle.conditions.specs.Questions.{is_condition}
use Rattle.statistics.specs.declared.one.table.Widths.{Widths}
use Rattle.statistics.specs.declared.line_style.LineStyle.TheVariants.{Html}
use Rattle.statistics.specs.declared.sums.Sums.{Sums}
use Rattle.statistics.specs.Answers.{count_of, most_in, rows}
use Rattle.statistics.specs.Counting.{TitledQuestion}
use Rattle.statistics.specs.Page.{page_header, page_mean, page_one, page_row}
use Rattle.statistics.specs.internal.Kept.{CountsOne, IsKeptOne, IsListOf, KeptOne, sums_of}
use Rattle.statistics.specs.internal.Texts.{AreWidths, one_head, one_row, one_tail, one_text, rows_shown}
use Rattle.statistics.proofs.Alike.{flat_map_alike, same_most, same_rows}
use Rattle.statistics.proofs.OneTable.{one_of, within_one}

page_is : (asked : TitledQuestion) (counts answers : List ℕ) (widths : Widths)
    → IsKeptOne (one_of asked counts (sums_of answers)) → IsListOf (λ n. count_of n answers) counts
    → AreWidths (one_of asked counts (sums_of answers)) widths
    → one_text Html widths (one_of asked counts (sums_of answers)) ≡ page_one (is_condition asked.question) answers
unfolding one_text one_head one_row one_tail page_one
page_is asked counts answers widths kept h w =
    let within = within_one asked counts (sums_of answers) kept in
    let most : widths.most ≡ most_in (rows (is_condition asked.question) answers) answers =
    w.most ∙ same_most (is_condition asked.question) counts answers h within in
    let f : ℕ → List ℕ =
    λ (n : ℕ). page_row (is_condition asked.question) (most_in (rows (is_condition asked.question) answers) answers)
    (length answers) n (count_of n answers) in
    sym (append_assoc (page_header ++ flat_map (one_row Html widths (one_of asked counts (sums_of answers))) _)
    (codes "</tbody>\n</table>\n") (page_mean (is_condition asked.question) answers))
    ∙ ap (λ (x : List ℕ). page_header ++ x ++ codes "</tbody>\n</table>\n" ++ page_mean (is_condition asked.question) answers)
    (flat_map_alike (one_row Html widths (one_of asked counts (sums_of answers))) f (rows_shown (is_condition asked.question) (sums_of answers))
    (λ k lt. ap₂ (λ (m c : ℕ). page_row (is_condition asked.question) m (length answers) k c) most (h k (omega (arith, within))))
    ∙ ap (flat_map f) (same_rows (is_condition asked.question) answers))

pub one_page_is : (one : KeptOne) (answers : List ℕ) (widths : Widths) → IsKeptOne one → CountsOne one answers → AreWidths one widths
    → one_text Html widths one ≡ page_one (is_condition one.asked.question) answers
one_page_is one answers widths kept h w =
    let P : Sums → Type 0 = λ (s : Sums). IsKeptOne (one_of one.asked one.counts s) → AreWidths (one_of one.asked one.counts s) widths
    → one_text Html widths (one_of one.asked one.counts s) ≡ page_one (is_condition one.asked.question) answers in
    subst P (sym h.sums) (λ k v. page_is one.asked one.counts answers widths k h.counts v) kept w
