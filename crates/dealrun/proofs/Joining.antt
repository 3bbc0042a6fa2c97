-- One worker more is joined.
use Rattle.std.proofs.Common.{◌≡◌, ◌<◌, ◌≤◌, ◌+◌, ℕ, true, false, List, ◌∷◌, length, drop, set, get_or, Option, Some}
use Rattle.std.proofs.Common.{None, MatchOption, arith, ap, ◌∙◌, sym, subst, below_more}
use Rattle.std.proofs.lemmas.Grind.{common_steps}
use Rattle.std.proofs.lemmas.List.{get_or-set_same, get_or-set_other, get_or-drop, drop-drop}
use Rattle.lanes.specs.declared.verdict.Verdict.{Verdict}
use Rattle.lanes.specs.Views.{OutView}
use Rattle.lanes.specs.Prefixes.{IsProperPrefix, IsPrefix}
use Rattle.lanes.specs.declared.worker.WorkEnd.{WorkEnd}
use Rattle.lanes.specs.declared.worker.WorkEnd.TheVariants.{Done, Stopped, Unclosed}
use Rattle.dealrun.specs.Headline.{contents_of}
use Rattle.dealrun.specs.internal.Joins.{JoinsAs, Below, PartIfSettled, WholeIfSettled, IsSettled, BeginningAt}
use Rattle.dealrun.specs.internal.Joins.{UnsettledAt, JoinedAs, stopped_after, unclosed_after}

-- the elements of drop n, one by one
pub drop_head : {A : Type 0} (xs rest : List A) (n : ℕ) (x : A) → drop n xs ≡ x ∷ rest → (d : A) → get_or xs n d ≡ x
drop_head xs rest n x is d =
    let at : get_or (drop n xs) 0 d ≡ get_or xs (n + 0) d = get_or-drop n xs 0 d in
    let none : n + 0 ≡ n = omega arith in
    ap (λ k. get_or xs k d) (sym none) ∙ (sym at ∙ ap (λ ys. get_or ys 0 d) is)

pub drop_rest : {A : Type 0} (xs rest : List A) (n : ℕ) (x : A) → drop n xs ≡ x ∷ rest → drop (n + 1) xs ≡ rest
drop_rest xs rest n x is = sym (drop-drop 1 n xs) ∙ ap (drop 1) is

pub drop_short : {A : Type 0} (xs rest : List A) (n : ℕ) (x : A) → drop n xs ≡ x ∷ rest → n < length xs
drop_short xs rest n x is = let len = ap length is in grind (arith, common_steps)

module _ (P : List Verdict → OutView → Type 0) (n : ℕ) (lists : List (List Verdict)) (lanes : List OutView)
    (new : OutView) (short : n < length lanes) where
  below_kept : (m : ℕ) → m ≤ n → Below P m lists lanes → Below P m lists (set lanes n new)
  below_kept m le h k d e lt = subst (P (get_or lists k d)) (sym (get_or-set_other lanes n k new e (omega arith))) (h k d e (omega arith))

  more_below : Below P n lists lanes → ((d : List Verdict) → P (get_or lists n d) new) → Below P (n + 1) lists (set lanes n new)
  more_below h here k d e lt =
      below_more (λ i. P (get_or lists i d) (get_or (set lanes n new) i e)) n
      (λ i less. below_kept n (omega arith) h i d e less)
      (subst (P (get_or lists n d)) (sym (get_or-set_same lanes n new e short)) (here d)) k lt

pub part_of_whole : (xs ys : List Verdict) → xs ≡ ys → IsPrefix xs ys
part_of_whole xs ys is = grind (arith, common_steps)

module _ (n : ℕ) (lists : List (List Verdict)) (lanes : List OutView) (all : List Verdict) (old new : OutView)
    (short : n < length lanes) (at : (d : List Verdict) → get_or lists n d ≡ all) (unsettled : old.settled ≡ false)
  where
    parts_here : (how : WorkEnd) → JoinsAs all old new how → PartIfSettled all new
    parts_here (Done closed) joins settled = part_of_whole _ _ joins.1
    parts_here (Stopped closed) joins settled = joins.1.0
    parts_here Unclosed joins settled = cc

    parts_step : (how : WorkEnd) → JoinsAs all old new how → Below PartIfSettled n lists lanes → Below PartIfSettled (n + 1) lists (set lanes n new)
    parts_step how joins h = more_below PartIfSettled n lists lanes new short h
        (λ d. subst (λ xs. PartIfSettled xs new) (sym (at d)) (parts_here how joins))

    beginning_kept : (s : ℕ) → s < n → BeginningAt s lists lanes → BeginningAt s lists (set lanes n new)
    beginning_kept s lt h d e =
        subst (λ l. (l.settled ≡ true) × IsProperPrefix (contents_of l) (get_or lists s d))
        (sym (get_or-set_other lanes n s new e (omega arith))) (h d e)

    unsettled_kept : (s : ℕ) → s < n → UnsettledAt s lanes → UnsettledAt s (set lanes n new)
    unsettled_kept s lt h e = subst (λ l. l.settled ≡ false) (sym (get_or-set_other lanes n s new e (omega arith))) (h e)

    stopped_step : (how : WorkEnd) (s : Option ℕ) → JoinsAs all old new how
        → MatchOption s (Below WholeIfSettled n lists lanes) (λ s. (s < n) × Below WholeIfSettled s lists lanes × BeginningAt s lists lanes)
        → MatchOption (stopped_after how n s) (Below WholeIfSettled (n + 1) lists (set lanes n new))
        (λ s. (s < n + 1) × Below WholeIfSettled s lists (set lanes n new) × BeginningAt s lists (set lanes n new))
    stopped_step (Done closed) None joins h = more_below WholeIfSettled n lists lanes new short h (λ d _. joins.1 ∙ sym (at d))
    stopped_step (Stopped closed) None joins h = (
      omega arith,
      below_kept WholeIfSettled n lists lanes new short n (omega arith) h,
      λ d e. subst (λ l. (l.settled ≡ true) × IsProperPrefix (contents_of l) (get_or lists n d))
          (sym (get_or-set_same lanes n new e short)) (
            joins.0,
            subst (IsProperPrefix (contents_of new)) (sym (at d)) joins.1,
          ),
    )
    stopped_step Unclosed None joins h = more_below WholeIfSettled n lists lanes new short h (λ d settled. cc)
    stopped_step how (Some s) joins h = (omega arith, below_kept WholeIfSettled n lists lanes new short s (omega arith) h.1, beginning_kept s h.0 h.2)

    unclosed_step : (how : WorkEnd) (u : Option ℕ) → JoinsAs all old new how
        → MatchOption u (Below IsSettled n lists lanes) (λ u. (u < n) × Below IsSettled u lists lanes × UnsettledAt u lanes)
        → MatchOption (unclosed_after how n u) (Below IsSettled (n + 1) lists (set lanes n new))
        (λ u. (u < n + 1) × Below IsSettled u lists (set lanes n new) × UnsettledAt u (set lanes n new))
    unclosed_step (Done closed) None joins h = more_below IsSettled n lists lanes new short h (λ d. joins.0)
    unclosed_step (Stopped closed) None joins h = more_below IsSettled n lists lanes new short h (λ d. joins.0)
    unclosed_step Unclosed None joins h = (
      omega arith,
      below_kept IsSettled n lists lanes new short n (omega arith) h,
      λ e. subst (λ l. l.settled ≡ false) (sym (get_or-set_same lanes n new e short))
          (ap (λ l. l.settled) joins ∙ unsettled),
    )
    unclosed_step how (Some u) joins h = (omega arith, below_kept IsSettled n lists lanes new short u (omega arith) h.1, unsettled_kept u h.0 h.2)

    pub join_step_to : (how : WorkEnd) (s u s' u' : Option ℕ) → JoinsAs all old new how → JoinedAs n lists lanes s u
        → s' ≡ stopped_after how n s → u' ≡ unclosed_after how n u
        → JoinedAs (n + 1) lists (set lanes n new) s' u'
    join_step_to how s u s' u' joins h same_s same_u = rw (same_s, same_u) (record {
      parts = parts_step how joins h.parts;
      stopped_is = stopped_step how s joins h.stopped_is;
      unclosed_is = unclosed_step how u joins h.unclosed_is;
    })
