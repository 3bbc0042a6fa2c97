-- The boards of verdicts, and of the verdicts on candidates.
use Rattle.std.proofs.Common.{◌≡◌, ◌∙◌, ◌+◌, ◌++◌, ℕ, zero, suc, Bool, true, false, cond, List, [], ◌∷◌, length, map, refl, sym, ap, arith}
use Rattle.std.specs.Prelude.{filter}
use Rattle.std.specs.List.{range_with_len}
use Rattle.std.proofs.lemmas.List.{append-nil}
use Rattle.std.proofs.lemmas.List.Elements.{filter-append}
use Rattle.std.proofs.lemmas.List.FromFn.{map-range_with_len_more}
use Rattle.boards.specs.declared.board.Board.{Board}
use Rattle.cards.specs.declared.seat.Seat.{Seat}
use Rattle.conditions.specs.Form.{Form}
use Rattle.conditions.specs.Meaning.{holds}
use Rattle.lanes.specs.declared.verdict.Verdict.{Verdict}
use Rattle.lanes.specs.Verdicts.{verdict_of}
use Rattle.boards.specs.Plans.{Planned, candidate_of}
use Rattle.boards.specs.Text.{accepted_among, board_of, boards_of}
use Rattle.boards.proofs.BoardLists.{accepted_among-more, accepted_among-none, boards_by, boards_by-append}
use Rattle.boards.proofs.BoardLists.{boards_of-more, boards_of-none, length-boards_by, length-boards_of}
use Rattle.dealrun.specs.MergedVerdicts.{boards_in}

pub boards_in-none : (plan : Planned) → boards_in plan [] ≡ []
unfolding boards_in
boards_in-none plan = refl

pub boards_in-push : (plan : Planned) (vs : List Verdict) (v : Verdict)
    → boards_in plan (vs ++ v ∷ []) ≡ cond v.accepted (boards_in plan vs
    ++ board_of plan (length (boards_in plan vs)) v.number v.deal ∷ []) (boards_in plan vs)
unfolding boards_in
boards_in-push plan vs v =
    ap (boards_by of_verdict 0) (filter-append (λ (v : Verdict). v.accepted) vs (v ∷ [])) ∙ last_board v.accepted (filter (λ v. v.accepted) vs)
  where
    of_verdict : ℕ → Verdict → Board
    of_verdict n v = board_of plan n v.number v.deal

    last_board : (b : Bool) (ws : List Verdict) → boards_by of_verdict 0 (ws ++ cond b (v ∷ []) []) ≡ cond b
        (boards_by of_verdict 0 ws ++ of_verdict (length (boards_by of_verdict 0 ws)) v ∷ [])
        (boards_by of_verdict 0 ws)
    last_board true ws =
        boards_by-append of_verdict ws (v ∷ []) ∙ ap (λ n. boards_by of_verdict 0 ws ++ of_verdict n v ∷ []) (sym (length-boards_by of_verdict ws))
    last_board false ws = ap (boards_by of_verdict 0) (append-nil ws)

-- the boards of the accepted ones among the verdicts on these candidates
last_board : (plan : Planned) (k : ℕ) (boards : List Board) (numbers : List ℕ) (b : Bool) → boards ≡ boards_of plan numbers
    → cond b (boards ++ board_of plan (length boards) k (candidate_of plan k) ∷ []) boards ≡ boards_of plan (numbers ++ cond b (k ∷ []) [])
last_board plan k boards numbers true is =
    let board : ℕ → Board = λ n. board_of plan n k (candidate_of plan k) in
    ap (λ bs. bs ++ board (length bs) ∷ []) is ∙ ap (λ n. boards_of plan numbers ++ board n ∷ [])
    (length-boards_of plan numbers) ∙ sym (boards_of-more plan numbers k)
last_board plan k boards numbers false is = is ∙ ap (boards_of plan) (sym (append-nil numbers))

pub boards_are : (plan : Planned) (form : Form) (n : ℕ)
    → boards_in plan (map (λ i. verdict_of (candidate_of plan) form (plan.first + i)) (range_with_len 0 n))
    ≡ boards_of plan (accepted_among (candidate_of plan) plan.first form n)
boards_are plan form zero = boards_in-none plan ∙ sym (ap (boards_of plan)
    (accepted_among-none (candidate_of plan) plan.first form) ∙ boards_of-none plan)
boards_are plan form (suc n) =
    let deals : ℕ → List Seat = candidate_of plan in
    let first = plan.first in
    let at : ℕ → Verdict = λ i. verdict_of deals form (first + i) in
    let e : suc n ≡ n + 1 = omega arith in
    ap (λ m. boards_in plan (map at (range_with_len 0 m))) e
    ∙ ap (boards_in plan) (map-range_with_len_more at 0 n n (omega arith))
    ∙ boards_in-push plan (map at (range_with_len 0 n)) (at n)
    ∙ last_board plan (first + n) (boards_in plan (map at (range_with_len 0 n))) (accepted_among deals first form n)
    (holds form (deals (first + n))) (boards_are plan form n)
    ∙ ap (boards_of plan) (sym (ap (accepted_among deals first form) e
    ∙ accepted_among-more deals first form n (holds form (deals (first + n))) refl))
