-- One verdict more is taken and written.
use Rattle.std.proofs.Common.{◌≡◌, ◌≢◌, ℕ, ◌+◌, ◌-◌, ◌%◌, ◌<◌, ◌≤◌, Bool, true, false, cond, List, [], ◌∷◌, ◌++◌, All}
use Rattle.std.proofs.Common.{length, get_or, set, Option, Some, refl, sym, ◌∙◌, ap, subst, arith, inl, inr}
use Rattle.std.proofs.Common.{append_assoc, length-append}
use Rattle.std.proofs.lemmas.Bool.{cases_eq, cases_lt}
use Rattle.std.proofs.lemmas.List.{get_or-set_same, get_or-set_other, get_or-map, map-set, length-set, length-map, append-nil, get_or_default}
use Rattle.boards.specs.declared.board.Board.{Board}
use Rattle.boards.specs.Layouts.{Layout}
use Rattle.lanes.specs.declared.verdict.Verdict.{Verdict}
use Rattle.lanes.specs.Verdicts.{turns}
use Rattle.lanes.specs.Views.{OutView}
use Rattle.lanes.proofs.Places.{turns-none}
use Rattle.lanes.proofs.Sums.{turns-here, turns-elsewhere}
use Rattle.boards.specs.Plans.{Planned}
use Rattle.sinks.specs.Appended.{append_known, AppendsPart}
use Rattle.boards.specs.Text.{board_of, text_of_boards}
use Rattle.dealrun.specs.MergedVerdicts.{in_turn, boards_in, boards_after}
use Rattle.dealrun.specs.internal.Writing.{board_text, printed, board_count, taken_lists, TakenInTurn, StaysShort, WriterSoFar, WriterBrokeOff}
use Rattle.sinks.proofs.SinkLemmas.{append_known-append, append_known-nil}
use Rattle.boards.proofs.BoardLists.{IsWithin, within_more, text_of_boards-none, text_of_boards-more}
use Rattle.dealrun.proofs.VerdictBoards.{boards_in-none, boards_in-push}
use Rattle.dealrun.proofs.Printing.{in_turn-none, in_turn-kept, in_turn-grown, grown}

more_text : (layout : Layout) (boards : List Board) (board : Board) (b : Bool)
    → text_of_boards layout (cond b (boards ++ board ∷ []) boards) ≡ text_of_boards layout boards ++ cond b (layout.board board) []
more_text layout boards board true = text_of_boards-more layout boards board
more_text layout boards board false = sym (append-nil (text_of_boards layout boards))

more_boards : (boards : List Board) (board : Board) (b : Bool)
    → length (cond b (boards ++ board ∷ []) boards) ≡ cond b (length boards + 1) (length boards)
more_boards boards board true = length-append boards (board ∷ [])
more_boards boards board false = refl

one_more_within : (limit : Option ℕ) (boards : ℕ) (b : Bool) → IsWithin limit (boards + 1) → IsWithin limit (cond b (boards + 1) boards)
one_more_within limit boards true h most is = h most is
one_more_within limit boards false h most is = omega (arith, h most is)

module _ (layout : Layout) (plan : Planned) (lanes : List OutView) (t : ℕ) (v : Verdict) (new : OutView)
    (some : 0 < plan.workers) (taken : TakenInTurn plan lanes t)
    (took : new.taken ≡ (get_or lanes (t % plan.workers) new).taken ++ v ∷ []) where
  abbrev W : ℕ
  W = plan.workers

  abbrev lists : List (List Verdict)
  lists = taken_lists lanes

  abbrev lanes' : List OutView
  lanes' = set lanes (t % W) new

  rem : t % W < W
  rem = omega (arith, some)

  at_lane : (w : ℕ) → w < W → get_or lists w [] ≡ (get_or lanes w new).taken
  at_lane w lt = get_or-map (λ (l : OutView). l.taken) lanes w new [] (omega (arith, lt, taken.long))

  lists_long : length lists ≡ W
  lists_long = simp length-map taken.long

  counted : (w : ℕ) → w < W → length (get_or lists w []) ≡ turns plan.workers w t
  counted w lt = ap length (at_lane w lt) ∙ taken.turns_are w new lt

  lists_grow : taken_lists lanes' ≡ grown W lists t v some lists_long counted
  lists_grow = map-set (λ (l : OutView). l.taken) lanes (t % W) new
      ∙ ap (λ vs. set lists (t % W) vs) (took ∙ ap (λ vs. vs ++ v ∷ []) (sym (at_lane (t % W) rem)))

  verdicts_more : in_turn W (taken_lists lanes') (t + 1) ≡ in_turn W lists t ++ v ∷ []
  verdicts_more = ap (λ ls. in_turn W ls (t + 1)) lists_grow ∙ in_turn-grown W lists t v some lists_long counted

  verdicts_kept : (i : ℕ) → i ≤ t → in_turn W (taken_lists lanes') i ≡ in_turn W lists i
  verdicts_kept i le = ap (λ ls. in_turn W ls i) lists_grow ∙ in_turn-kept W lists t v some lists_long counted i le

  abbrev last : Board
  last = board_of plan (board_count plan lists t) v.number v.deal

  all_more : boards_after plan (taken_lists lanes') (t + 1) ≡ cond v.accepted (boards_after plan lists t ++ last ∷ []) (boards_after plan lists t)
  all_more = ap (boards_in plan) verdicts_more ∙ boards_in-push plan (in_turn W lists t) v

  printed_more : (boards : ℕ) → boards ≡ board_count plan lists t
      → printed layout plan (taken_lists lanes') (t + 1) ≡ printed layout plan lists t
      ++ cond v.accepted (board_text layout plan boards v) []
  printed_more boards is =
      ap (text_of_boards layout) all_more ∙ more_text layout (boards_after plan lists t) last v.accepted
      ∙ ap (λ n. printed layout plan lists t ++ cond v.accepted (board_text layout plan n v) []) (sym is)

  boards_more : (boards : ℕ) → boards ≡ board_count plan lists t → cond v.accepted (boards + 1) boards ≡ board_count plan (taken_lists lanes') (t + 1)
  boards_more boards is =
      ap (λ n. cond v.accepted (n + 1) n) is ∙ sym (ap length all_more ∙ more_boards (boards_after plan lists t) last v.accepted)

  boards_kept : (i : ℕ) → i ≤ t → board_count plan (taken_lists lanes') i ≡ board_count plan lists i
  boards_kept i le = ap (λ vs. length (boards_in plan vs)) (verdicts_kept i le)

  lane_turns : (w : ℕ) (e : OutView) → w < W → length (get_or lanes' w e).taken ≡ turns plan.workers w (t + 1)
  lane_turns w e lt =
      elim (cases_eq w (t % W)) [
        | inl here ↦
            ap (λ k. length (get_or lanes' k e).taken) here ∙ ap (λ l. length l.taken)
            (get_or-set_same lanes (t % W) new e (omega (arith, rem, taken.long)))
            ∙ ap length took ∙ length-append (get_or lanes (t % W) new).taken (v ∷ []) ∙ ap (λ n. n + 1) (taken.turns_are (t % W) new rem)
            ∙ sym (ap (λ k. turns W k (t + 1)) here ∙ turns-here W (t % W) t refl)
        | inr ne ↦ ap (λ l. length l.taken) (get_or-set_other lanes (t % W) w new e ne) ∙ taken.turns_are w e lt ∙ sym (turns-elsewhere W w t ne)
      ]

  turns_more : TakenInTurn plan lanes' (t + 1)
  turns_more = record { long = simp length-set taken.long; turns_are = lane_turns }

  short_more : (boards : ℕ) → boards ≡ board_count plan lists t → StaysShort plan lanes t
      → IsWithin plan.limit (boards + 1) → StaysShort plan lanes' (t + 1)
  short_more boards is short less i lt most limit =
      elim (cases_lt i t) [
        | inl before ↦ let h : board_count plan lists i < most = short i before most limit in omega (arith, h, boards_kept i (omega arith))
        | inr not_so ↦
            let e : i ≡ t = omega arith in
            let same : board_count plan (taken_lists lanes') i ≡ boards = ap (board_count plan (taken_lists lanes')) e
            ∙ boards_kept t (omega arith) ∙ sym is in
            omega (arith, same, less most limit)
      ]

  pub step_on : (has has' : List Board → Type 0) (boards : ℕ) (base bytes : Option (List ℕ))
      → WriterSoFar layout has plan lanes t boards base bytes → plan.limit ≢ Some boards
      → ((bs : List Board) → has bs → has' (cond v.accepted (bs ++ board_of plan boards v.number v.deal ∷ []) bs))
      → WriterSoFar layout has' plan lanes' (t + 1) (cond v.accepted (boards + 1) boards) base
      (append_known bytes (cond v.accepted (board_text layout plan boards v) []))
  step_on has has' boards base bytes h less grows =
      let is = h.written.boards_are in
      let below = within_more plan.limit boards h.within less in record {
        in_turn = turns_more;
        written = record {
          bytes_are = ap (λ o. append_known o (cond v.accepted (board_text layout plan boards v) [])) h.written.bytes_are
              ∙ append_known-append base (printed layout plan lists t)
              (cond v.accepted (board_text layout plan boards v) [])
              ∙ ap (append_known base) (sym (printed_more boards is));
          boards_are = boards_more boards is;
        };
        printed = subst has' (ap (λ n. cond v.accepted (boards_after plan lists t
            ++ board_of plan n v.number v.deal ∷ []) (boards_after plan lists t)) is ∙ sym all_more)
            (grows (boards_after plan lists t) h.printed);
        within = one_more_within plan.limit boards v.accepted below;
        short = short_more boards is h.short below;
      }

  pub step_broken : (has : List Board → Type 0) (boards : ℕ) (base bytes bytes' : Option (List ℕ))
      → WriterSoFar layout has plan lanes t boards base bytes → plan.limit ≢ Some boards → v.accepted ≡ true
      → AppendsPart bytes bytes' (board_text layout plan boards v) → WriterBrokeOff layout plan lanes' (t + 1) boards base bytes'
  step_broken has boards base bytes bytes' h less accepted part =
      let is = h.written.boards_are in
      let before : List ℕ = printed layout plan lists t in
      let back : t + 1 - 1 ≡ t = omega arith in
      let all : printed layout plan (taken_lists lanes') (t + 1) ≡ before ++ board_text layout plan boards v =
      printed_more boards is ∙ ap (λ b. before ++ cond b (board_text layout plan boards v) []) accepted in
      let same : printed layout plan (taken_lists lanes') (t + 1 - 1) ≡ before =
      ap (printed layout plan (taken_lists lanes')) back
      ∙ ap (λ vs. text_of_boards layout (boards_in plan vs)) (verdicts_kept t (omega arith)) in
      record {
        in_turn = turns_more;
        broken = record {
          part = record {
            front = before ++ part.front;
            rest = part.rest;
            is_text = append_assoc before part.front part.rest ∙ ap (λ bs. before ++ bs) part.is_text ∙ sym all;
            is_proper = part.is_proper;
            appended = part.appended ∙ ap (λ o. append_known o part.front) h.written.bytes_are ∙ append_known-append base before part.front;
          };
          before = λ _. (part.front, ap (λ bs. bs ++ part.front) same);
          boards_are = is ∙ sym (ap (board_count plan (taken_lists lanes')) back ∙ boards_kept t (omega arith));
        };
        short = short_more boards is h.short (within_more plan.limit boards h.within less);
      }

-- what the lane gave, by what it was
taken_at : (plan : Planned) (lanes : List OutView) (t : ℕ) (v : Verdict) (old new : OutView) (place : ℕ)
    → 0 < plan.workers → TakenInTurn plan lanes t → place ≡ t % plan.workers → old ≡ get_or lanes place old
    → new.taken ≡ old.taken ++ v ∷ []
    → new.taken ≡ (get_or lanes (t % plan.workers) new).taken ++ v ∷ []
taken_at plan lanes t v old new place some taken place_is old_is took =
    let below : place < length lanes = omega (arith, some, taken.long, place_is) in
    took ∙ ap (λ l. l.taken ++ v ∷ []) (old_is ∙ get_or_default lanes place old new below ∙ ap (λ p. get_or lanes p new) place_is)

-- the same, with the values as the writer has them
pub on_to : (layout now : Layout) (has has' : List Board → Type 0) (plan : Planned) (lanes : List OutView)
    (t boards : ℕ) (base bytes : Option (List ℕ)) (v : Verdict) (old new : OutView) (place t' boards' : ℕ)
    (bytes' : Option (List ℕ))
    → 0 < plan.workers → WriterSoFar layout has plan lanes t boards base bytes → plan.limit ≢ Some boards
    → place ≡ t % plan.workers → old ≡ get_or lanes place old → new.taken ≡ old.taken ++ v ∷ []
    → t' ≡ t + 1 → boards' ≡ cond v.accepted (boards + 1) boards → now ≡ layout
    → bytes' ≡ append_known bytes (cond v.accepted (board_text now plan boards v) [])
    → ((bs : List Board) → has bs → has' (cond v.accepted (bs ++ board_of plan boards v.number v.deal ∷ []) bs))
    → WriterSoFar layout has' plan (set lanes place new) t' boards' base bytes'
on_to layout now has has' plan lanes t boards base bytes v old new place t' boards' bytes' some h less place_is old_is
    took t_is boards_is same bytes_is grows =
    let at = taken_at plan lanes t v old new place some h.in_turn place_is old_is took in
    rw (place_is, t_is, boards_is, bytes_is, same) (step_on layout plan lanes t v new some h.in_turn at has has' boards base bytes h less grows)

-- a rejected candidate's verdict was taken, and nothing was written
pub passed_to : (layout : Layout) (has : List Board → Type 0) (plan : Planned) (lanes : List OutView) (t boards : ℕ)
    (base bytes : Option (List ℕ)) (v : Verdict) (old new : OutView) (place t' boards' : ℕ)
    → 0 < plan.workers → WriterSoFar layout has plan lanes t boards base bytes → plan.limit ≢ Some boards
    → place ≡ t % plan.workers → old ≡ get_or lanes place old → new.taken ≡ old.taken ++ v ∷ []
    → t' ≡ t + 1 → v.accepted ≡ false → boards' ≡ boards → WriterSoFar layout has plan (set lanes place new) t' boards' base bytes
passed_to layout has plan lanes t boards base bytes v old new place t' boards' some h less place_is old_is took t_is rejected boards_is =
    on_to layout layout has has plan lanes t boards base bytes v old new place t' boards' bytes some h less place_is old_is took t_is
    (boards_is ∙ sym (ap (λ b. cond b (boards + 1) boards) rejected)) refl
    (sym (ap (λ b. append_known bytes (cond b (board_text layout plan boards v) [])) rejected ∙ append_known-nil bytes))
    (λ bs known. subst has (sym (ap (λ b. cond b (bs ++ board_of plan boards v.number v.deal ∷ []) bs) rejected)) known)

-- what goes on for the boards printed before, goes on for any notation that has printed them
pub with_notation : (layout : Layout) (has : List Board → Type 0) (plan plan' : Planned) (lanes lanes' : List OutView)
    (t t' boards boards' : ℕ) (base bytes : Option (List ℕ)) → WriterSoFar layout has plan lanes t boards base bytes
    → ((bs : List Board) → WriterSoFar layout (λ printed. printed ≡ bs) plan lanes t boards base bytes
    → WriterSoFar layout (λ printed. printed ≡ bs) plan' lanes' t' boards' base bytes)
    → WriterSoFar layout has plan' lanes' t' boards' base bytes
with_notation layout has plan _ lanes _ t _ boards _ base bytes h pass =
    let s = pass (boards_after plan (taken_lists lanes) t)
    (record { in_turn = h.in_turn; written = h.written; printed = refl; within = h.within; short = h.short }) in
    record { in_turn = s.in_turn; written = s.written; printed = subst has (sym s.printed) h.printed; within = s.within; short = s.short }

pub broken_to : (layout now : Layout) (has : List Board → Type 0) (plan : Planned) (lanes : List OutView)
    (t boards : ℕ) (base bytes : Option (List ℕ)) (v : Verdict) (old new : OutView) (place t' boards' : ℕ)
    (bytes' : Option (List ℕ))
    → 0 < plan.workers → WriterSoFar layout has plan lanes t boards base bytes → plan.limit ≢ Some boards
    → place ≡ t % plan.workers → old ≡ get_or lanes place old → new.taken ≡ old.taken ++ v ∷ []
    → t' ≡ t + 1 → v.accepted ≡ true → boards' ≡ boards → now ≡ layout → AppendsPart bytes bytes' (board_text now plan boards v)
    → WriterBrokeOff layout plan (set lanes place new) t' boards' base bytes'
broken_to layout now has plan lanes t boards base bytes v old new place t' boards' bytes' some h less place_is old_is
    took t_is accepted boards_is same part =
    let at = taken_at plan lanes t v old new place some h.in_turn place_is old_is took in
    let step = step_broken layout plan lanes t v new some h.in_turn at has boards base bytes bytes' h less accepted
    (subst (λ l. AppendsPart bytes bytes' (board_text l plan boards v)) same part) in
    rw (place_is, t_is, boards_is) step

printed-none : (layout : Layout) (plan : Planned) (lists : List (List Verdict)) → printed layout plan lists 0 ≡ layout.header
printed-none layout plan lists =
    ap (λ vs. text_of_boards layout (boards_in plan vs)) (in_turn-none plan.workers lists) ∙ ap (text_of_boards layout) (boards_in-none plan)
    ∙ text_of_boards-none layout

boards_after-none : (plan : Planned) (lists : List (List Verdict)) → boards_after plan lists 0 ≡ []
boards_after-none plan lists = ap (boards_in plan) (in_turn-none plan.workers lists) ∙ boards_in-none plan

boards-none : (plan : Planned) (lists : List (List Verdict)) → board_count plan lists 0 ≡ 0
boards-none plan lists = ap (λ vs. length (boards_in plan vs)) (in_turn-none plan.workers lists) ∙ ap length (boards_in-none plan)

pub fresh_turns : (plan : Planned) (lanes : List OutView) → length lanes ≡ plan.workers → All (λ l. l.taken ≡ []) lanes → TakenInTurn plan lanes 0
fresh_turns plan lanes long fresh = record {
  long = long;
  turns_are =
      λ w e lt. ap length (fresh w e (omega (arith, lt, long))) ∙ sym (turns-none plan.workers w);
}

pub begins : (layout : Layout) (has : List Board → Type 0) (head : List ℕ) (plan : Planned) (lanes : List OutView)
    (t boards : ℕ) (base bytes : Option (List ℕ)) → length lanes ≡ plan.workers → All (λ l. l.taken ≡ []) lanes
    → t ≡ 0 → boards ≡ 0 → head ≡ layout.header → bytes ≡ append_known base head → has [] → WriterSoFar layout has plan lanes t boards base bytes
begins layout has head plan lanes t boards base bytes long fresh t_is boards_is head_is bytes_is none =
    let lists = taken_lists lanes in record {
      in_turn = subst (TakenInTurn plan lanes) (sym t_is) (fresh_turns plan lanes long fresh);
      written = record {
        bytes_are = bytes_is ∙ ap (append_known base) (head_is ∙ sym (ap (printed layout plan lists) t_is ∙ printed-none layout plan lists));
        boards_are = boards_is ∙ sym (ap (board_count plan lists) t_is ∙ boards-none plan lists);
      };
      printed = subst has (sym (ap (boards_after plan lists) t_is ∙ boards_after-none plan lists)) none;
      within = λ most _. omega arith;
      short = λ i lt. absurd (omega arith);
    }

pub begins_broken : (layout : Layout) (head : List ℕ) (plan : Planned) (lanes : List OutView) (t boards : ℕ)
    (base bytes : Option (List ℕ)) → length lanes ≡ plan.workers → All (λ l. l.taken ≡ []) lanes
    → t ≡ 0 → boards ≡ 0 → head ≡ layout.header → AppendsPart base bytes head → WriterBrokeOff layout plan lanes t boards base bytes
begins_broken layout head plan lanes t boards base bytes long fresh t_is boards_is head_is part =
    let lists = taken_lists lanes in
    let none : t - 1 ≡ 0 = omega arith in record {
      in_turn = subst (TakenInTurn plan lanes) (sym t_is) (fresh_turns plan lanes long fresh);
      broken = record {
        part = record {
          front = part.front;
          rest = part.rest;
          is_text = part.is_text ∙ head_is ∙ sym (ap (printed layout plan lists) t_is ∙ printed-none layout plan lists);
          is_proper = part.is_proper;
          appended = part.appended;
        };
        before = λ some. absurd (omega arith);
        boards_are = boards_is ∙ sym (ap (board_count plan lists) none ∙ boards-none plan lists);
      };
      short = λ i lt. absurd (omega arith);
    }
