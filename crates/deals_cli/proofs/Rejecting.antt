-- A run of which no candidate is accepted: the lanes that it could have had.
use Rattle.std.proofs.Common.{◌≡◌, ◌<◌, ◌≤◌, ◌+◌, ◌++◌, ◌∙◌, ℕ, zero, suc, true, false, All, List, [], IfSome, None}
use Rattle.std.proofs.Common.{Option, Some, ap, append-nil, arith, get_or, inl, length, map, refl, subst, sym}
use Rattle.std.specs.List.{range_with_len}
use Rattle.std.specs.Option.{ForSome}
use Rattle.std.proofs.lemmas.List.FromFn.{get_or-map-range_with_len, length-map-range_with_len}
use Rattle.boards.specs.declared.board.Board.{Board}
use Rattle.boards.specs.Layouts.{Layout}
use Rattle.cards.specs.Fixed.{IsFixed}
use Rattle.cond_lang.specs.Form.{Form}
use Rattle.lanes.specs.Prefixes.{IsPrefix}
use Rattle.lanes.specs.Jobs.{verdicts_for}
use denote.RawPtr.{null_ptr}
use Rattle.lanes.specs.Views.{OutView, Ring}
use Rattle.lanes.proofs.VerdictLists.{length-verdicts}
use Rattle.boards.specs.declared.cause.Cause.TheVariants.{Output}
use Rattle.boards.specs.Plans.{Planned, candidate_of}
use Rattle.boards.specs.Text.{accepted_among, boards_of, text_of_boards}
use Rattle.boards.proofs.BoardLists.{accepted_among-more, accepted_among-none, boards_of-none, text_of_boards-none}
use Rattle.sinks.specs.Appended.{AppendsAll, AppendsPart, append_known}
use Rattle.dealrun.specs.Headline.{contents_of}
use Rattle.dealrun.specs.Interrupted.{InterruptedIn}
use Rattle.dealrun.specs.MergedVerdicts.{boards_after}
use Rattle.dealrun.specs.internal.Ends.{Closes}
use Rattle.dealrun.specs.internal.Joins.{AllParts, ByNumber}
use Rattle.dealrun.specs.internal.Writing.{TakenInTurn, WriterSoFar, taken_lists}
use Rattle.dealrun.proofs.Advance.{begins_broken}
use Rattle.dealrun.proofs.Endings.{closed, footer_broken, taken_boards}
use Rattle.dealrun.proofs.Finals.{stands_broken}
use Rattle.dealrun.proofs.Joining.{part_of_whole}
use Rattle.deals_cli.specs.internal.Ends.{AcceptsNone}

-- ---- nothing is accepted

none_among : (plan : Planned) (form : Form) (n : ℕ) → AcceptsNone plan form → accepted_among (candidate_of plan) plan.first form n ≡ []
none_among plan form zero none = accepted_among-none (candidate_of plan) plan.first form
none_among plan form (suc n) none =
    let e : suc n ≡ n + 1 = omega arith in
    ap (accepted_among (candidate_of plan) plan.first form) e
    ∙ accepted_among-more (candidate_of plan) plan.first form n false (none (plan.first + n))
    ∙ ap (λ xs. xs ++ []) (none_among plan form n none)

-- ---- the limit

pub limit_is : (o limit : Option ℕ) → o ≡ limit → IfSome o (λ most. 0 < most) → ForSome limit (λ most. 0 < most)
limit_is None limit e h m is = absurd (cc (e, is))
limit_is (Some most) limit e h m is =
    let same : most ≡ m = cc (e, is) in
    omega (arith, h, same)

-- ---- lanes of which nothing was taken

abbrev no_ring : Ring
no_ring = record { words = null_ptr; slots = null_ptr; names = (0, (0, 0)) }

abbrev no_lane : OutView
no_lane = record { taken = []; known = 0; ring = no_ring; settled = false; left = [] }

idle_lanes : Planned → List OutView
idle_lanes plan = map (λ w. no_lane) (range_with_len 0 plan.workers)

pub record BreaksHeader (layout : Layout) (plan : Planned) (form : Form) (old new : Option (List ℕ)) : Type 0 where
  pub lanes : List OutView
  pub stands : InterruptedIn layout plan form Output lanes 0 old new

pub header_broken : (layout : Layout) (plan : Planned) (form : Form) (head : List ℕ) (old new : Option (List ℕ))
    → 0 < plan.workers → head ≡ layout.header → AppendsPart old new head
    → BreaksHeader layout plan form old new
unfolding idle_lanes
header_broken layout plan form head old new some is part =
    let lanes : List OutView = idle_lanes plan in
    let long : length lanes ≡ plan.workers = length-map-range_with_len (λ w. no_lane) 0 plan.workers in
    let at : (w : ℕ) (d : OutView) → w < plan.workers → get_or lanes w d ≡ no_lane =
    λ w d lt. get_or-map-range_with_len (λ w. no_lane) 0 plan.workers w w d lt (omega arith) in
    let fresh : All (λ l. l.taken ≡ []) lanes = λ w d lt. ap (λ l. l.taken) (at w d (omega (arith, lt, long))) in
    record {
      lanes = lanes;
      stands = stands_broken layout plan form lanes 0 0 old new some (omega arith)
          (λ w d lt settled. absurd (cc (ap (λ l. l.settled) (at w d lt), settled)))
          (begins_broken layout head plan lanes 0 0 old new long fresh refl refl is part);
    }

-- ---- lanes of which all was taken

abbrev lane_of : Planned → Form → ℕ → OutView
lane_of plan form w = record {
  taken = verdicts_for plan form w;
  known = 0;
  ring = no_ring;
  settled = true;
  left = [];
}

abbrev pub all_lanes : Planned → Form → List OutView
all_lanes plan form = map (lane_of plan form) (range_with_len 0 plan.workers)

lane_at : (plan : Planned) (form : Form) (w : ℕ) (d : OutView) → w < plan.workers → get_or (all_lanes plan form) w d ≡ lane_of plan form w
lane_at plan form w d lt = get_or-map-range_with_len (lane_of plan form) 0 plan.workers w w d lt (omega arith)

module _ (layout : Layout) (has : List Board → Type 0) (plan : Planned) (form : Form) (old mid : Option (List ℕ))
    (none : AcceptsNone plan form) (some : 0 < plan.workers)
    (limit : ForSome plan.limit (λ most. 0 < most)) (head : mid ≡ append_known old layout.header) (printed : has []) where
  in_turn : TakenInTurn plan (all_lanes plan form) plan.count
  in_turn = record {
    long = length-map-range_with_len (lane_of plan form) 0 plan.workers;
    turns_are = λ w d lt.
        ap (λ l. length l.taken) (lane_at plan form w d lt) ∙ length-verdicts (candidate_of plan) plan.first plan.count form plan.workers w;
  }

  parts : AllParts plan form (all_lanes plan form)
  parts w d lt =
      subst (λ l. (l.settled ≡ true) × IsPrefix (contents_of l) (verdicts_for plan form w)) (sym (lane_at plan form w d lt))
      (refl, part_of_whole (verdicts_for plan form w ++ []) (verdicts_for plan form w) (append-nil (verdicts_for plan form w)))

  fronts : ByNumber plan (all_lanes plan form) (λ w l. IsPrefix l.taken (verdicts_for plan form w))
  fronts w d lt =
      subst (λ l. IsPrefix l.taken (verdicts_for plan form w)) (sym (lane_at plan form w d lt))
      (part_of_whole (verdicts_for plan form w) (verdicts_for plan form w) refl)

  no_boards : (m : ℕ) → m ≤ plan.count → boards_after plan (taken_lists (all_lanes plan form)) m ≡ []
  no_boards m le =
      taken_boards plan form (all_lanes plan form) plan.count some (omega arith) in_turn fronts m le
      ∙ ap (boards_of plan) (none_among plan form m none) ∙ boards_of-none plan

  so_far : WriterSoFar layout has plan (all_lanes plan form) plan.count 0 old mid
  so_far =
      let all = no_boards plan.count (omega arith) in record {
        in_turn = in_turn;
        written = record {
          bytes_are = head ∙ ap (append_known old) (sym (ap (text_of_boards layout) all ∙ text_of_boards-none layout));
          boards_are = sym (ap length all);
        };
        printed = subst has (sym all) printed;
        within = λ most is. omega arith;
        short = λ i lt most is. omega (arith, limit most is, ap length (no_boards i (omega arith)));
      }

  pub closes : (new : Option (List ℕ)) → IsFixed plan.fixed → AppendsAll mid new (layout.footer [] plan.count)
      → Closes layout plan form (all_lanes plan form) 0 plan.count old new
  closes new fits at =
      closed layout has plan form (all_lanes plan form) plan.count 0 old mid some (omega arith) so_far parts (inl refl) new (omega arith) fits
      (subst (λ boards. AppendsAll mid new (layout.footer boards plan.count)) (sym (no_boards plan.count (omega arith))) at)

  pub breaks_footer : (new : Option (List ℕ)) → AppendsPart mid new (layout.footer [] plan.count)
      → InterruptedIn layout plan form Output (all_lanes plan form) 0 old new
  breaks_footer new part =
      footer_broken layout has plan form (all_lanes plan form) plan.count 0 old mid some (omega arith) so_far parts (inl refl) new
      (subst (λ boards. AppendsPart mid new (layout.footer boards plan.count)) (sym (no_boards plan.count (omega arith))) part)
