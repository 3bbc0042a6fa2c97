-- The text of a counter is the table of its plan's deals.
use Rattle.std.proofs.Common.{◌≡◌, ◌≤◌, ◌^◌, ◌+◌, ◌++◌, ◌∙◌, ℕ, List, [], ◌∷◌, Option, map, length, take, refl, ap, ap₂}
use Rattle.std.specs.List.{enumerate_from, flat_map}
use Rattle.std.proofs.lemmas.List.{take_all}
use Rattle.boards.specs.declared.board.Board.{Board}
use Rattle.boards.specs.Settings.{board_in, by_law}
use Rattle.cards.specs.declared.seat.Seat.{Seat}
use Rattle.cond_lang.specs.Form.{Form}
use Rattle.dealrun.specs.Headline.{WritesTextIn}
use Rattle.boards.specs.Plans.{Planned, candidate_of}
use Rattle.boards.specs.Text.{accepted, board_of, boards_of, end_of, text_in}
use Rattle.jobs.specs.Counting.{table_by}
use Rattle.sinks.specs.Appended.{AppendsAll, append_known}
use Rattle.statistics.specs.Counting.{Subject, count_text, counting, most_deals}
use Rattle.boards.specs.declared.style.TableStyle.{TableStyle}

no_texts : (boards : List Board) → flat_map {X = Board} {A = ℕ} (λ board. []) boards ≡ []
no_texts [] = refl
no_texts (b ∷ boards) = no_texts boards

plain_deal : (plan : Planned) (n k : ℕ) (deal : List Seat) → plan.setting ≡ by_law → (board_of plan n k deal).deal ≡ deal
unfolding board_in
plain_deal plan n k deal plain = ap (λ s. (board_in s (plan.first_board + n) k deal).deal) plain

deals_from : (plan : Planned) (n : ℕ) (xs : List ℕ) → plan.setting ≡ by_law
    → map (λ board. board.deal) (map (λ p. board_of plan p.0 p.1 (candidate_of plan p.1)) (enumerate_from n xs)) ≡ map (candidate_of plan) xs
deals_from plan n [] plain = refl
deals_from plan n (k ∷ xs) plain = ap₂ (λ d ds. d ∷ ds) (plain_deal plan n k (candidate_of plan k) plain) (deals_from plan (n + 1) xs plain)

deals_are : (plan : Planned) (xs : List ℕ) → plan.setting ≡ by_law → map (λ board. board.deal) (boards_of plan xs) ≡ map (candidate_of plan) xs
unfolding boards_of
deals_are plan xs plain = deals_from plan 0 xs plain

no_more : (boards : List Board) (n : ℕ) → length boards ≤ n → take n boards ≡ boards
no_more boards n few = take_all n boards few

text_is : (style : TableStyle) (subject : Subject) (plan : Planned) (form : Form) → plan.setting ≡ by_law
    → length (boards_of plan (accepted plan form)) ≤ most_deals
    → text_in (counting style subject) plan form ≡ table_by style subject plan form
unfolding table_by
text_is style subject plan form plain few =
    let boards = boards_of plan (accepted plan form) in
    ap (λ t. t ++ count_text style subject (map (λ board. board.deal) (take most_deals boards)) (end_of plan form)) (no_texts boards)
    ∙ ap (λ bs. count_text style subject (map (λ board. board.deal) bs) (end_of plan form)) (no_more boards most_deals few)
    ∙ ap (λ ds. count_text style subject ds (end_of plan form)) (deals_are plan (accepted plan form) plain)

pub table_written : (style : TableStyle) (subject : Subject) (plan : Planned) (form : Form) (boards : ℕ)
    (old new : Option (List ℕ)) → plan.setting ≡ by_law
    → length (boards_of plan (accepted plan form)) ≤ 2 ^ 40 → WritesTextIn (counting style subject) plan form boards old new
    → AppendsAll old new (table_by style subject plan form)
table_written style subject plan form boards old new plain few written = written.bytes
    ∙ ap (append_known old) (text_is style subject plan form plain few)
