-- From the lanes as they stand to the text of the candidates.
use Rattle.std.proofs.Common.{◌≡◌, ◌≢◌, ℕ, zero, suc, ◌+◌, ◌*◌, ◌/◌, ◌%◌, ◌<◌, ◌≤◌, ◌⊎◌, true, false, List, [], ◌++◌}
use Rattle.std.proofs.Common.{All, length, get_or, map, take, sum, Option, Some, refl, sym, ◌∙◌, ap, subst, arith}
use Rattle.std.proofs.Common.{inl, inr, append_assoc, length-append, mul_comm}
use Rattle.std.specs.List.{range_with_len, cons_option, slice_get}
use Rattle.std.specs.Option.{ForSome}
use Rattle.std.proofs.lemmas.Grind.{common_steps}
use Rattle.std.proofs.lemmas.List.{get_or-map, length-map, get_or-take, take_all, take-take, nil_from_length}
use Rattle.std.proofs.Math.Seq.{take-append_seam}
use Rattle.std.proofs.lemmas.List.FromFn.{fill_by_all, get_or-map-range_with_len, map-range_with_len_more}
use Rattle.std.proofs.lemmas.List.FromFn.{get_or-enumerate_from, length-enumerate_from}
use Rattle.std.proofs.lemmas.Option.{slice_get-get_or}
use denote.RawPtr.{null_ptr}
use Rattle.boards.specs.declared.board.Board.{Board}
use Rattle.boards.specs.Layouts.{Layout}
use Rattle.cards.specs.Candidates.{state_before}
use Rattle.cards.specs.Deals.{IsPartition}
use Rattle.cards.specs.Fixed.{IsFixed}
use Rattle.cards.proofs.AroundDeals.{around_is_partition}
use Rattle.std.proofs.lemmas.List.Elements.{All-map}
use Rattle.conditions.specs.Form.{Form}
use Rattle.lanes.specs.declared.verdict.Verdict.{Verdict}
use Rattle.lanes.specs.Verdicts.{turns, verdict_of}
use Rattle.lanes.specs.Views.{OutView}
use Rattle.lanes.specs.Prefixes.{IsPrefix}
use Rattle.lanes.proofs.Places.{count_even, turns_less}
use Rattle.lanes.proofs.Sums.{sum-turn_counts}
use Rattle.lanes.proofs.VerdictLists.{length-verdicts, verdicts-are}
use Rattle.boards.specs.Plans.{Planned, candidate_of}
use Rattle.sinks.specs.Appended.{append_known, AppendsAll, AppendsPart}
use Rattle.boards.specs.Text.{accepted_among, accepted, boards_of, text_of, text_of_boards, end_of}
use Rattle.dealrun.specs.MergedVerdicts.{at_turn, in_turn, boards_in, boards_taken, taken_in_all}
use Rattle.lanes.specs.Jobs.{verdicts_for}
use Rattle.boards.specs.declared.cause.Cause.TheVariants.{Output}
use Rattle.dealrun.specs.internal.Joins.{AllParts, ByNumber}
use Rattle.dealrun.specs.internal.Ends.{Closes}
use Rattle.dealrun.specs.internal.Writing.{board_count, printed, taken_lists, TakenInTurn, StaysShort, WroteTaken, WriterSoFar}
use Rattle.dealrun.specs.Headline.{EachLane, AllSettled, for_each_worker, contents_of, TakesWhatIsOwed}
use Rattle.dealrun.specs.Interrupted.{AreLanesConsistent, InterruptedIn, StandsCompleteIn, footer_taken}
use Rattle.boards.proofs.BoardLists.{length-boards_of}
use Rattle.sinks.proofs.SinkLemmas.{append_known-append, append_known-nil}
use Rattle.dealrun.proofs.Printing.{in_turn-none, in_turn-more}
use Rattle.boards.proofs.Accepting.{end_here, needed_here, accepted_here}
use Rattle.dealrun.proofs.VerdictBoards.{boards_are}

-- a list's beginning, when more follows it in a beginning
pub prefix_front : (xs ys zs : List Verdict) → IsPrefix (xs ++ ys) zs → IsPrefix xs zs
prefix_front xs ys zs h =
    sym (take-append_seam xs ys) ∙ ap (take (length xs)) h ∙ take-take (length xs) (length (xs ++ ys)) zs (omega (arith, length-append xs ys))

pub prefix_short : (xs zs : List Verdict) → IsPrefix xs zs → length xs ≤ length zs
prefix_short xs zs h = grind (arith, common_steps)

-- some lane, for where a list has none
pub no_lane : OutView
no_lane = record { taken = []; known = 0; ring = record { words = null_ptr; slots = null_ptr; names = (0, (0, 0)) }; settled = false; left = [] }

-- lanes of which a fact holds by their numbers
pub each_lane : (P : ℕ → OutView → Type 0) (lanes : List OutView)
    → ((w : ℕ) (e : OutView) → w < length lanes → P w (get_or lanes w e)) → EachLane lanes P
each_lane P lanes h k d lt =
    let short : k < length lanes = omega (arith, lt, length-enumerate_from 0 lanes) in
    let item = get_or-enumerate_from 0 lanes k d short in
    let number : 0 + k ≡ k = omega arith in
    subst (λ p. P p.0 p.1) (sym (item ∙ ap (λ n. (n, get_or lanes k d.1)) number)) (h k d.1 short)

pub each_number : (plan : Planned) (P : ℕ → OutView → Type 0) (lanes : List OutView) → length lanes ≡ plan.workers
    → ByNumber plan lanes P → EachLane lanes P
each_number plan P lanes long h = each_lane P lanes (λ w e lt. h w e (omega (arith, lt, long)))

-- the lists of what f gives for each lane, by their numbers
pub for_each_lane : {A : Type 0} (plan : Planned) (f : OutView → A) (g : ℕ → A) (lanes : List OutView)
    → length lanes ≡ plan.workers → ByNumber plan lanes (λ w l. f l ≡ g w) → map f lanes ≡ for_each_worker plan g
for_each_lane plan f g lanes long h =
    fill_by_all g (map f lanes) plan.workers (f no_lane) (simp length-map long)
    (λ k lt. get_or-map f lanes k no_lane (f no_lane) (omega (arith, lt, long)) ∙ h k no_lane lt)

-- the lanes were taken in turn, as lists
turns_as_lists : (plan : Planned) (lanes : List OutView) (m : ℕ) → TakenInTurn plan lanes m
    → map (λ l. length l.taken) lanes ≡ for_each_worker plan (λ w. turns plan.workers w m)
turns_as_lists plan lanes m h = for_each_lane plan (λ l. length l.taken) (λ w. turns plan.workers w m) lanes h.long h.turns_are

-- in all as many were taken as there were turns
pub taken_total : (plan : Planned) (lanes : List OutView) (t : ℕ) → 0 < plan.workers → TakenInTurn plan lanes t → taken_in_all lanes ≡ t
taken_total plan lanes t some h = ap sum (turns_as_lists plan lanes t h) ∙ sum-turn_counts plan.workers t some

module _ (plan : Planned) (form : Form) (lanes : List OutView) (t : ℕ) (some : 0 < plan.workers) (le : t ≤ plan.count) (h : TakenInTurn plan lanes t)
    (parts : ByNumber plan lanes (λ w l. IsPrefix l.taken (verdicts_for plan form w))) where
  abbrev at : ℕ → Verdict
  at i = verdict_of (candidate_of plan) form (plan.first + i)

  at_lane : (w : ℕ) → w < plan.workers → get_or (taken_lists lanes) w [] ≡ (get_or lanes w no_lane).taken
  at_lane w lt = get_or-map (λ (l : OutView). l.taken) lanes w no_lane [] (omega (arith, lt, h.long))

  -- item k of a beginning of the worker's verdicts
  item : (xs : List Verdict) (w k : ℕ) → w < plan.workers → IsPrefix xs (verdicts_for plan form w) → k < length xs
      → k < turns plan.workers w plan.count
      → slice_get xs k ≡ Some (at (w + k * plan.workers))
  item xs w k lt part here there =
      let d : Verdict = at 0 in
      slice_get-get_or xs k d here ∙ ap (λ x. Some x)
      (ap (λ ys. get_or ys k d) part ∙ get_or-take (length xs) (verdicts_for plan form w) k d here
      ∙ ap (λ ys. get_or ys k d) (verdicts-are (candidate_of plan) plan.first plan.count form plan.workers w lt)
      ∙ get_or-map-range_with_len (λ i. verdict_of (candidate_of plan) form (plan.first + (w + i * plan.workers))) 0
      (turns plan.workers w plan.count) k k d there (omega arith))

  at_turn_is : (i : ℕ) → i < t → at_turn plan.workers (taken_lists lanes) i ≡ Some (at i)
  at_turn_is i lt =
      let W : ℕ = plan.workers in
      let w : ℕ = i % plan.workers in
      let rem : i % plan.workers < plan.workers = omega (arith, some) in
      let k_is : turns plan.workers w i ≡ i / plan.workers = count_even plan.workers w i rem (omega arith) in
      let here = turns_less plan.workers w i t rem refl lt in
      let there = turns_less plan.workers w i plan.count rem refl (omega (arith, lt, le)) in
      let long = h.turns_are w no_lane rem in
      let turned : plan.workers * (i / plan.workers) ≡ i / plan.workers * plan.workers = mul_comm plan.workers (i / plan.workers) in
      let whole : i % plan.workers + i / plan.workers * plan.workers ≡ i = omega arith in
      ap (λ xs. slice_get xs (i / plan.workers)) (at_lane w rem)
      ∙ item (get_or lanes w no_lane).taken w (i / plan.workers) rem (parts w no_lane rem)
      (omega (arith, here, k_is, long)) (omega (arith, there, k_is))
      ∙ ap (λ n. Some (at n)) whole

  recovers : (m : ℕ) → m ≤ t → in_turn plan.workers (taken_lists lanes) m ≡ map at (range_with_len 0 m)
  recovers zero le' = in_turn-none plan.workers (taken_lists lanes)
  recovers (suc m) le' =
      let e : suc m ≡ m + 1 = omega arith in
      in_turn-more plan.workers (taken_lists lanes) m ∙ ap
      (λ vs. vs ++ cons_option (at_turn plan.workers (taken_lists lanes) m) []) (recovers m (omega arith))
      ∙ ap (λ o. map at (range_with_len 0 m) ++ cons_option o []) (at_turn_is m (omega arith))
      ∙ sym (ap (λ n. map at (range_with_len 0 n)) e ∙ map-range_with_len_more at 0 m m (omega arith))

  pub taken_boards : (m : ℕ) → m ≤ t → boards_taken plan lanes m ≡ boards_of plan (accepted_among (candidate_of plan) plan.first form m)
  taken_boards m le' = ap (boards_in plan) (recovers m le') ∙ boards_are plan form m

  pub count_taken : (m : ℕ) → m ≤ t → board_count plan (taken_lists lanes) m ≡ length (accepted_among (candidate_of plan) plan.first form m)
  count_taken m le' = ap length (taken_boards m le') ∙ length-boards_of plan (accepted_among (candidate_of plan) plan.first form m)

  pub short_candidates : StaysShort plan lanes t → (i : ℕ) → i < t
      → ForSome plan.limit (λ most. length (accepted_among (candidate_of plan) plan.first form i) < most)
  short_candidates short i lt most is = let less : board_count plan (taken_lists lanes) i < most =
      short i lt most is in omega (arith, less, count_taken i (omega arith))

  -- as many as were needed, and the text of all
  module _ (layout : Layout) (boards : ℕ) (old new : Option (List ℕ))
      (written : WroteTaken layout plan lanes t boards old new) (within : ForSome plan.limit (λ most. boards ≤ most))
      (short : StaysShort plan lanes t)
      (ended : (t ≡ plan.count) ⊎ (plan.limit ≡ Some boards)) where
    boards_here : boards ≡ length (accepted_among (candidate_of plan) plan.first form t)
    boards_here = written.boards_are ∙ count_taken t (omega arith)

    ended_here : (t ≡ plan.count) ⊎ (plan.limit ≡ Some (length (accepted_among (candidate_of plan) plan.first form t)))
    ended_here = elim (ended) [ inl e ↦ inl e | inr e ↦ inr (e ∙ ap (λ n. Some n) boards_here) ]

    within_here : ForSome plan.limit (λ most. length (accepted_among (candidate_of plan) plan.first form t) ≤ most)
    within_here most is = let few : boards ≤ most = within most is in omega (arith, few, boards_here)

    pub ends : end_of plan form ≡ t
    ends = end_here plan form t le (short_candidates short) ended_here

    pub accepted_is : accepted plan form ≡ accepted_among (candidate_of plan) plan.first form t
    accepted_is = accepted_here plan form t le within_here ended_here

    pub whole_text : new ≡ append_known old (text_of layout plan (accepted plan form))
    whole_text = written.bytes_are ∙ ap (append_known old)
        (ap (text_of_boards layout) (taken_boards t (omega arith)) ∙ ap (text_of layout plan) (sym accepted_is))

    pub all_boards : boards ≡ length (accepted plan form)
    all_boards = boards_here ∙ ap length (sym accepted_is)

-- the accepted deals are partitions, as every candidate is
partitions : (plan : Planned) (form : Form) → IsFixed plan.fixed → All IsPartition (map (candidate_of plan) (accepted plan form))
partitions plan form fits = All-map IsPartition (candidate_of plan) (accepted plan form)
    (λ k d lt. around_is_partition plan.fixed (state_before plan.seed (get_or (accepted plan form) k d)) fits)

-- what stands when the lanes were taken in turn and each settled one holds a beginning
pub stand : (plan : Planned) (form : Form) (lanes : List OutView) (t : ℕ) → 0 < plan.workers → t ≤ plan.count
    → TakenInTurn plan lanes t → StaysShort plan lanes t
    → ByNumber plan lanes (λ w l. l.settled ≡ true → IsPrefix (contents_of l) (verdicts_for plan form w)) → AreLanesConsistent plan form lanes
stand plan form lanes t some le h short parts =
    let total = taken_total plan lanes t some h in
    let fronts : AllSettled lanes → ByNumber plan lanes (λ w l. IsPrefix l.taken (verdicts_for plan form w)) =
    λ all w e lt. prefix_front (get_or lanes w e).taken (get_or lanes w e).left (verdicts_for plan form w)
    (parts w e lt (all w e (omega (arith, lt, h.long)))) in
    record {
      in_turn = turns_as_lists plan lanes (taken_in_all lanes) (subst (TakenInTurn plan lanes) (sym total) h);
      parts = each_number plan (λ w l. l.settled ≡ true → IsPrefix (contents_of l) (verdicts_for plan form w)) lanes h.long parts;
      needed = λ all. subst (λ m. m ≤ end_of plan form) (sym total)
          (needed_here plan form t le (short_candidates plan form lanes t some le h (fronts all) short));
      candidates = λ all m le'. taken_boards plan form lanes t some le h (fronts all) m (omega (arith, le', total));
    }

-- what was taken was written, and what closes it
stand_closed : (layout : Layout) (closing : List ℕ) (plan : Planned) (form : Form) (lanes : List OutView)
    (m boards : ℕ) (old mid new : Option (List ℕ)) → taken_in_all lanes ≡ m → AreLanesConsistent plan form lanes
    → WroteTaken layout plan lanes m boards old mid → new ≡ append_known mid closing → StandsCompleteIn layout closing plan form lanes boards old new
stand_closed layout closing plan form lanes m boards old mid new total lanes_are h is =
    let all = subst (λ n. WroteTaken layout plan lanes n boards old mid) (sym total) h in record {
      lanes_are = lanes_are;
      bytes_are = is ∙ ap (λ o. append_known o closing) all.bytes_are
          ∙ append_known-append old (printed layout plan (taken_lists lanes) (taken_in_all lanes)) closing;
      boards_are = all.boards_are;
    }

pub stand_complete : (layout : Layout) (has : List Board → Type 0) (plan : Planned) (form : Form)
    (lanes : List OutView) (t boards : ℕ) (old new : Option (List ℕ)) → 0 < plan.workers → t ≤ plan.count
    → WriterSoFar layout has plan lanes t boards old new
    → ByNumber plan lanes (λ w l. l.settled ≡ true → IsPrefix (contents_of l) (verdicts_for plan form w))
    → StandsCompleteIn layout [] plan form lanes boards old new
stand_complete layout has plan form lanes t boards old new some le h parts =
    stand_closed layout [] plan form lanes t boards old new new (taken_total plan lanes t some h.in_turn)
    (stand plan form lanes t some le h.in_turn h.short parts) h.written (sym (append_known-nil new))

-- a lane whose worker's verdicts were all taken, as many as were sent
whole_lane : (plan : Planned) (form : Form) (l : OutView) (w : ℕ) → IsPrefix l.taken (verdicts_for plan form w)
    → IsPrefix (contents_of l) (verdicts_for plan form w) → length l.taken ≡ length (verdicts_for plan form w)
    → (l.taken ≡ verdicts_for plan form w) × (l.left ≡ [])
whole_lane plan form l w front sent same =
    let short = prefix_short (contents_of l) (verdicts_for plan form w) sent in
    let none : length l.left ≡ 0 = omega (arith, short, same, length-append l.taken l.left) in
    (front ∙ take_all (length l.taken) (verdicts_for plan form w) (omega (arith, same)), nil_from_length l.left none)

-- a run that took what was needed, and what follows its boards
module _ (layout : Layout) (has : List Board → Type 0) (plan : Planned) (form : Form) (lanes : List OutView)
    (t boards : ℕ) (old mid : Option (List ℕ)) (some : 0 < plan.workers) (le : t ≤ plan.count)
    (h : WriterSoFar layout has plan lanes t boards old mid)
    (parts : AllParts plan form lanes) (ended : (t ≡ plan.count) ⊎ (plan.limit ≡ Some boards)) where
  long : length lanes ≡ plan.workers
  long = h.in_turn.long

  sent : ByNumber plan lanes (λ w l. IsPrefix (contents_of l) (verdicts_for plan form w))
  sent w e lt = (parts w e lt).1

  fronts : ByNumber plan lanes (λ w l. IsPrefix l.taken (verdicts_for plan form w))
  fronts w e lt = prefix_front (get_or lanes w e).taken (get_or lanes w e).left (verdicts_for plan form w) (sent w e lt)

  end_is : end_of plan form ≡ t
  end_is = ends plan form lanes t some le h.in_turn fronts layout boards old mid h.written h.within h.short ended

  all_needed : plan.limit ≢ Some boards → t ≡ plan.count
  all_needed less = elim (ended) [ inl e ↦ e | inr e ↦ absurd (less e) ]

  whole : plan.limit ≢ Some boards → ByNumber plan lanes (λ w l. (l.taken ≡ verdicts_for plan form w) × (l.left ≡ []))
  whole less w e lt =
      whole_lane plan form (get_or lanes w e) w (fronts w e lt) (sent w e lt)
      (h.in_turn.turns_are w e lt ∙ ap (turns plan.workers w) (all_needed less)
      ∙ sym (length-verdicts (candidate_of plan) plan.first plan.count form plan.workers w))

  lanes_complete : TakesWhatIsOwed plan form lanes boards
  lanes_complete = record {
    taken =
        for_each_lane plan (λ l. l.taken) (λ w. take (turns plan.workers w (end_of plan form)) (verdicts_for plan form w)) lanes long
        (λ w e lt. fronts w e lt ∙ ap (λ n. take n (verdicts_for plan form w)) (h.in_turn.turns_are w e lt ∙ ap (turns plan.workers w) (sym end_is)));
    settled = λ k d lt. (parts k d (omega (arith, lt, long))).0;
    sent = each_number plan (λ w l. IsPrefix (contents_of l) (verdicts_for plan form w)) lanes long sent;
    whole = λ less. (
      for_each_lane plan (λ l. l.taken) (verdicts_for plan form) lanes long (λ w e lt. (whole less w e lt).0),
      λ k d lt. (whole less k d (omega (arith, lt, long))).1,
    );
  }

  boards_counted : boards ≡ length (accepted plan form)
  boards_counted = all_boards plan form lanes t some le h.in_turn fronts layout boards old mid h.written h.within h.short ended

  consistent : AreLanesConsistent plan form lanes
  consistent = stand plan form lanes t some le h.in_turn h.short (λ w e lt _. sent w e lt)

  abbrev body : List ℕ
  body = text_of layout plan (accepted plan form)

  -- the footer, or its beginning, comes after all boards
  after_body : (new : Option (List ℕ)) (end : List ℕ) → new ≡ append_known mid end → new ≡ append_known old (body ++ end)
  after_body new end is =
      is ∙ ap (λ o. append_known o end) (whole_text plan form lanes t some le h.in_turn fronts layout boards old mid h.written h.within h.short ended)
      ∙ append_known-append old body end

  -- what was taken are the boards of the whole text, and all that is needed
  boards_all : boards_taken plan lanes t ≡ boards_of plan (accepted plan form)
  boards_all = taken_boards plan form lanes t some le h.in_turn fronts t (omega arith)
      ∙ ap (boards_of plan) (sym (accepted_is plan form lanes t some le h.in_turn fronts layout boards old mid
      h.written h.within h.short ended))

  abbrev foot : List ℕ
  foot = layout.footer (boards_taken plan lanes t) t

  foot_is : foot ≡ layout.footer (boards_of plan (accepted plan form)) (end_of plan form)
  foot_is = ap (λ bs. layout.footer bs t) boards_all ∙ ap (layout.footer (boards_of plan (accepted plan form))) (sym end_is)

  pub closed : (new : Option (List ℕ)) → boards ≤ t → IsFixed plan.fixed → AppendsAll mid new foot → Closes layout plan form lanes boards t old new
  closed new few fits is =
      let total = taken_total plan lanes t some h.in_turn in record {
        lanes_are = lanes_complete;
        text_is = record {
          bytes = after_body new foot is ∙ ap (λ l. append_known old (body ++ l)) foot_is;
          boards_are = boards_counted;
          partitions = partitions plan form fits;
        };
        stands = stand_closed layout (footer_taken layout plan lanes) plan form lanes t boards old mid new total
            consistent h.written (is ∙ ap (λ m. append_known mid (layout.footer (boards_taken plan lanes m) m))
            (sym total));
        candidates_are = sym end_is;
        few = (few, le);
      }

  pub footer_broken : (new : Option (List ℕ)) → AppendsPart mid new foot → InterruptedIn layout plan form Output lanes boards old new
  footer_broken new part = (
    consistent,
    inr (record {
      lanes_are = lanes_complete;
      part = record {
        front = body ++ part.front;
        rest = part.rest;
        is_text = append_assoc body part.front part.rest ∙ ap (λ l. body ++ l) (part.is_text ∙ foot_is);
        is_proper = part.is_proper;
        appended = after_body new part.front part.appended;
      };
      before = (part.front, refl);
      boards_are = boards_counted;
    }),
  )
