-- The text of what is kept is that of the deals.
use Rattle.std.proofs.Common.{◌≡◌, ◌++◌, ◌∙◌, ℕ, Bool, List, [], length, refl, sym, ap, codes, if◌then◌else◌}
use Rattle.std.proofs.lemmas.Bool.{eq-eqb, ne_eqb}
use Rattle.std.proofs.lemmas.List.{append-nil}
use Rattle.cards.specs.declared.seat.Seat.{Seat}
use Rattle.statistics.specs.declared.one.table.Widths.{Widths}
use Rattle.boards.specs.declared.style.TableStyle.TheVariants as styles
use Rattle.statistics.specs.declared.line_style.LineStyle.{LineStyle}
use Rattle.statistics.specs.declared.line_style.LineStyle.TheVariants.{Csv, Html, Table}
use Rattle.statistics.specs.Answers.{answers_of}
use Rattle.statistics.specs.Counting.{TitledQuestion, Subject, by_each, by_one, by_two, count_text, csv_text, deals_alone, page_table, pairs_of, table_text}
use Rattle.statistics.specs.Csv.{csv_total}
use Rattle.statistics.specs.Sentence.{sentence}
use Rattle.statistics.specs.internal.Counters.{alone_text, body_text, page_part, sentence_line}
use Rattle.statistics.specs.internal.Kept.{CountsOne, CountsTwo, IsKeptOne, IsKeptTwo, KeptOne, KeptTwo}
use Rattle.statistics.specs.internal.Lines.{two_text}
use Rattle.statistics.specs.internal.Texts.{AreWidths, one_text}
use Rattle.statistics.specs.internal.Parts.{each_text}
use Rattle.statistics.proofs.OneTable.{one_csv_is, one_table_is}
use Rattle.statistics.proofs.OnePage.{one_page_is}
use Rattle.statistics.proofs.TwoPage.{two_page_is}
use Rattle.statistics.proofs.TwoTable.{two_csv_is, two_table_is}

pub alone_body : (style : LineStyle) (n : ℕ) (deals : List (List Seat)) (tried : ℕ) → n ≡ length deals
    → alone_text style n tried ≡ body_text style deals_alone deals tried
unfolding alone_text table_text csv_text page_table
alone_body Table n deals tried e = refl
alone_body Html n deals tried e = refl
alone_body Csv n deals tried e = ap (λ (m : ℕ). csv_total m tried) e

pub one_body : (style : LineStyle) (one : KeptOne) (widths : Widths) (deals : List (List Seat)) (tried : ℕ) → IsKeptOne one → AreWidths one widths
    → CountsOne one (answers_of one.asked.question deals) → one_text style widths one ≡ body_text style (by_one one.asked) deals tried
unfolding table_text csv_text page_table
one_body Table one widths deals tried kept w h = one_table_is one (answers_of one.asked.question deals) widths kept h w
one_body Html one widths deals tried kept w h = one_page_is one (answers_of one.asked.question deals) widths kept h w
one_body Csv one widths deals tried kept w h = one_csv_is one (answers_of one.asked.question deals) widths kept h

pub two_body : (style : LineStyle) (two : KeptTwo) (deals : List (List Seat)) (tried : ℕ) → IsKeptTwo two
    → CountsTwo two (pairs_of two.of.asked.question two.by.question deals)
    → two_text two style ≡ body_text style (by_two two.of.asked two.by) deals tried
unfolding table_text csv_text page_table
two_body Table two deals tried kept h = two_table_is two (pairs_of two.of.asked.question two.by.question deals) kept h
two_body Html two deals tried kept h = two_page_is two (pairs_of two.of.asked.question two.by.question deals) kept h
two_body Csv two deals tried kept h = two_csv_is two (pairs_of two.of.asked.question two.by.question deals) kept h

pub each_body : (style : LineStyle) (asked : List TitledQuestion) (deals : List (List Seat)) (tried : ℕ)
    → each_text style asked deals tried ≡ body_text style (by_each asked) deals tried
unfolding table_text csv_text page_table
each_body Table asked deals tried = refl
each_body _ asked deals tried = refl

pub sentence_is : (n m tried : ℕ) → n ≡ m → sentence_line n tried ≡ sentence m tried ++ codes "\n"
unfolding sentence_line
sentence_is n m tried e = ap (λ (k : ℕ). sentence k tried ++ codes "\n") e

-- with no deal the sentence is all
pub told_of_none : (subject : Subject) (deals : List (List Seat)) (tried : ℕ) → length deals ≡ 0
    → sentence (length deals) tried ++ codes "\n" ≡ count_text styles.Table subject deals tried
unfolding count_text
told_of_none subject deals tried e =
    sym (append-nil (sentence (length deals) tried ++ codes "\n"))
    ∙ ap (λ (b : Bool). sentence (length deals) tried ++ codes "\n" ++ (if b then [] else table_text subject deals)) (sym (eq-eqb (length deals) 0 e))

pub told_of_some : (subject : Subject) (deals : List (List Seat)) (tried : ℕ) → (length deals ≡ 0 → ⊥)
    → sentence (length deals) tried ++ codes "\n" ++ table_text subject deals ≡ count_text styles.Table subject deals tried
unfolding count_text
told_of_some subject deals tried some =
    ap (λ (b : Bool). sentence (length deals) tried ++ codes "\n" ++ (if b then [] else table_text subject deals))
    (sym (ne_eqb (length deals) 0 some))

-- and the same of the table on a page
pub none_on_page : (subject : Subject) (deals : List (List Seat)) → length deals ≡ 0 → page_part subject deals ≡ []
none_on_page subject deals e = ap (λ (b : Bool). if b then [] else page_table subject deals) (eq-eqb (length deals) 0 e)

pub some_on_page : (subject : Subject) (deals : List (List Seat)) → (length deals ≡ 0 → ⊥) → page_table subject deals ≡ page_part subject deals
some_on_page subject deals some = ap (λ (b : Bool). if b then [] else page_table subject deals) (sym (ne_eqb (length deals) 0 some))
