-- The lines that are written are lines of the table, and no cell of a page is darker than the darkest.
use Rattle.std.proofs.Common.{◌≡◌, ◌+◌, ◌-◌, ◌<◌, ◌≤◌, ℕ, length, subst, arith}
use Rattle.statistics.specs.declared.rows.Rows.{Rows}
use Rattle.statistics.specs.declared.line_style.LineStyle.{LineStyle}
use Rattle.statistics.specs.declared.line_style.LineStyle.TheVariants.{Csv, Html, Table}
use Rattle.statistics.specs.declared.two.table.Line.{Line}
use Rattle.statistics.specs.declared.two.table.Line.TheVariants.{All, CsvRow, Header, Mean, Page, Row}
use Rattle.statistics.specs.declared.two.page.PageLine.{PageLine}
use Rattle.statistics.specs.declared.two.page.PageLine.TheVariants.{Cells, Heads, Means, Totals}
use Rattle.statistics.specs.internal.Kept.{KeptTwo, cell_at}
use Rattle.statistics.specs.internal.Lines.{CanShade, IsLine, row_of}
use Rattle.statistics.specs.internal.PageLines.{IsPageLine, IsShaded, columns_of_two, most_for, most_in_row, most_kept}
use Rattle.statistics.specs.internal.Texts.{rows_of_one}
use Rattle.statistics.proofs.Most.{most_up_to}

-- no number of some has more
most_shown : (f : ℕ → ℕ) (most : ℕ) (shown : Rows) (n : ℕ) → shown.first ≤ n → n < shown.end
    → ((k : ℕ) → k < shown.end - shown.first → f (shown.first + k) ≤ most) → f n ≤ most
most_shown f most shown n le lt up =
    let e : shown.first + (n - shown.first) ≡ n = omega arith in
    subst (λ (j : ℕ). f j ≤ most) e (up (n - shown.first) (omega arith))

cell_up_to : (two : KeptTwo) (n m : ℕ) → (rows_of_one two.of).first ≤ n → n < (rows_of_one two.of).end
    → (columns_of_two two).first ≤ m → m < (columns_of_two two).end
    → cell_at two n m ≤ most_kept two
cell_up_to two n m le lt ge below =
    let row = most_shown (λ (j : ℕ). most_in_row two j) (most_kept two) (rows_of_one two.of) n le lt
    (most_up_to (λ (j : ℕ). most_in_row two j) (rows_of_one two.of).first ((rows_of_one two.of).end - (rows_of_one two.of).first)) in
    let column = most_shown (λ (j : ℕ). cell_at two n j) (most_in_row two n) (columns_of_two two) m ge below
    (most_up_to (λ (j : ℕ). cell_at two n j) (columns_of_two two).first ((columns_of_two two).end - (columns_of_two two).first)) in
    omega (arith, row, column)

pub is_line : (two : KeptTwo) (style : LineStyle) (n : ℕ) → n < length two.of.counts → (rows_of_one two.of).first ≤ n → n < (rows_of_one two.of).end
    → IsLine two (row_of style (most_for two style) n)
is_line two Table n low le lt = low
is_line two Csv n low le lt = low
is_line two Html n low le lt = record { within = low; up_to = λ m ge below. cell_up_to two n m le lt ge below }

on_page : (two : KeptTwo) (line : PageLine) (m : ℕ) → IsPageLine two line → (columns_of_two two).first ≤ m
    → m < (columns_of_two two).end → IsShaded two line m
on_page two (Cells n most) m h ge below = h.up_to m ge below
on_page two x m h ge below = tt

pub can_shade : (two : KeptTwo) (line : Line) (m : ℕ) → IsLine two line → (columns_of_two two).first ≤ m
    → m < (columns_of_two two).end → CanShade two line m
can_shade two (Page line) m h ge below = on_page two line m h ge below
can_shade two x m h ge below = tt
