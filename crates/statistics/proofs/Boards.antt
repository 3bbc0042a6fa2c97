-- Boards are counted up to the last that counts.
use Rattle.std.proofs.Common.{◌≡◌, ◌<◌, ◌≤◌, ◌++◌, ◌∷◌, ◌∙◌, ℕ, List, [], length, map, take, sym, ap, arith, min}
use Rattle.std.proofs.lemmas.List.{length-map, length-take, length_push, map-append, take-append-le, take_all}
use Rattle.boards.specs.declared.board.Board.{Board}
use Rattle.cards.specs.declared.seat.Seat.{Seat}
use Rattle.statistics.specs.declared.kept.Kept.{Kept}
use Rattle.statistics.specs.declared.kept.Kept.TheVariants.{Alone, Cells, Each, Rows}
use Rattle.statistics.specs.declared.sums.Sums.{Sums}
use Rattle.statistics.specs.Counting.{most_deals, pairs_of}
use Rattle.conditions.specs.Questions.{answer}
use Rattle.statistics.specs.internal.Counters.{Counts, deals_kept, deals_of}

-- as many deals as were counted
pub deals_counted : (kept : Kept) (deals : List (List Seat)) → Counts kept deals → deals_kept kept ≡ length deals
deals_counted (Alone n) deals h = h
deals_counted (Rows one) deals h = ap (λ (s : Sums). s.deals) h.sums ∙ length-map deals (answer one.asked.question)
deals_counted (Cells two) deals h =
    ap (λ (s : Sums). s.deals) h.rows.sums ∙ length-map (pairs_of two.of.asked.question two.by.question deals) (λ (p : ℕ × ℕ). p.0)
    ∙ length-map deals (λ (d : List Seat). (answer two.of.asked.question d, answer two.by.question d))
deals_counted (Each each) deals h = h.number

length_deals_of : (boards : List Board) → length (deals_of boards) ≡ min most_deals (length boards)
length_deals_of boards = length-map (take most_deals boards) (λ (b : Board). b.deal) ∙ length-take most_deals boards

-- one board more is counted, if fewer were
pub board_counts : (kept : Kept) (boards : List Board) (board : Board) → Counts kept (deals_of boards) → deals_kept kept < most_deals
    → deals_of boards ++ board.deal ∷ [] ≡ deals_of (boards ++ board ∷ [])
board_counts kept boards board h lt =
    let n : deals_kept kept ≡ length (deals_of boards) = deals_counted kept (deals_of boards) h in
    let few : length boards < most_deals = omega (arith, n, length_deals_of boards) in
    let short : length (boards ++ board ∷ []) ≤ most_deals = omega (arith, length_push boards board) in
    ap (λ (bs : List Board). map (λ (b : Board). b.deal) bs ++ board.deal ∷ []) (take_all most_deals boards (omega arith))
    ∙ sym (map-append (λ (b : Board). b.deal) boards (board ∷ []))
    ∙ ap (λ (bs : List Board). map (λ (b : Board). b.deal) bs) (sym (take_all most_deals (boards ++ board ∷ []) short))

-- and no more, if as many as count were
pub board_is_past : (kept : Kept) (boards : List Board) (board : Board) → Counts kept (deals_of boards) → most_deals ≤ deals_kept kept
    → deals_of boards ≡ deals_of (boards ++ board ∷ [])
board_is_past kept boards board h ge =
    let n : deals_kept kept ≡ length (deals_of boards) = deals_counted kept (deals_of boards) h in
    let many : most_deals ≤ length boards = omega (arith, n, length_deals_of boards) in
    ap (λ (bs : List Board). map (λ (b : Board). b.deal) bs) (sym (take-append-le most_deals boards (board ∷ []) many))
