-- From the joins and the writer to what a run promises.
use Rattle.std.proofs.Common.{◌≡◌, ◌≢◌, ◌<◌, ◌≤◌, ◌-◌, ◌⊎◌, ◌++◌, ℕ, true, false, List, [], All, map, take, length}
use Rattle.std.proofs.Common.{get_or, Option, None, Some, arith, ap, ◌∙◌, sym, subst, refl, inl, inr}
use Rattle.std.proofs.lemmas.Bool.{cases_lt, both_ways}
use Rattle.std.proofs.lemmas.List.{get_or-map, length-map, get_or-take, take_all}
use Rattle.std.proofs.lemmas.List.FromFn.{get_or-map-range_with_len}
use Rattle.std.proofs.lemmas.Option.{MatchOption-at_none, MatchOption-at_some, slice_get-get_or}
use Rattle.boards.specs.declared.board.Board.{Board}
use Rattle.boards.specs.Layouts.{Layout}
use Rattle.conditions.specs.Form.{Form}
use Rattle.lanes.specs.declared.verdict.Verdict.{Verdict}
use Rattle.lanes.specs.Views.{OutView}
use Rattle.lanes.specs.Prefixes.{IsPrefix, IsProperPrefix}
use Rattle.boards.specs.Plans.{Planned}
use Rattle.sinks.specs.Appended.{append_known}
use Rattle.dealrun.specs.MergedVerdicts.{boards_after, taken_in_all}
use Rattle.lanes.specs.Jobs.{verdicts_for}
use Rattle.dealrun.specs.internal.Joins.{ByNumber, Owes, JoinedAs, Below, WholeIfSettled, IsSettled, BeginningAt, UnsettledAt, AllWhole}
use Rattle.dealrun.specs.internal.Writing.{board_count, printed, TakenInTurn, StaysShort, WriterSoFar, WriterBrokeOff}
use Rattle.dealrun.specs.Headline.{contents_of}
use Rattle.dealrun.specs.Interrupted.{AreLanesConsistent, BreaksOffLastPiece, IsLeastStopped, IsLeastUnclosed, InterruptedIn, BreaksOffFooter}
use Rattle.boards.specs.declared.cause.Cause.TheVariants.{Spawn}
use Rattle.dealrun.proofs.Advance.{fresh_turns}
use Rattle.dealrun.proofs.Endings.{taken_total, stand, each_number, each_lane, no_lane}

-- lists that f cannot tell apart have elements that it cannot tell apart
pub same_at : {A B : Type 0} (f : A → B) (xs ys : List A) (k : ℕ) (d : A) → map f xs ≡ map f ys → k < length ys
    → f (get_or xs k d) ≡ f (get_or ys k d)
same_at f xs ys k d is short =
    let lens : length xs ≡ length ys = simp length-map at (ap length is) in
    sym (get_or-map f xs k d (f d) (omega arith)) ∙ (ap (λ zs. get_or zs k (f d)) is ∙ get_or-map f ys k d (f d) short)

-- lanes from which the same was taken
module _ (layout : Layout) (plan : Planned) (lanes lanes' : List OutView) (t boards : ℕ) (old new : Option (List ℕ))
    (same : map (λ l. l.taken) lanes' ≡ map (λ l. l.taken) lanes) where
  in_turn_still : TakenInTurn plan lanes t → TakenInTurn plan lanes' t
  in_turn_still h =
      let lens : length lanes' ≡ length lanes = simp length-map at (ap length same) in record {
        long = lens ∙ h.long;
        turns_are = λ w e lt. ap length (same_at (λ (l : OutView). l.taken) lanes' lanes w e same (omega (arith, lt, h.long))) ∙ h.turns_are w e lt;
      }

  short_still : StaysShort plan lanes t → StaysShort plan lanes' t
  short_still h i lt most is = subst (λ ls. board_count plan ls i < most) (sym same) (h i lt most is)

  pub goes_on_still : (has : List Board → Type 0) → WriterSoFar layout has plan lanes t boards old new
      → WriterSoFar layout has plan lanes' t boards old new
  goes_on_still has h = record {
    in_turn = in_turn_still h.in_turn;
    written = record {
      bytes_are = h.written.bytes_are ∙ ap (λ ls. append_known old (printed layout plan ls t)) (sym same);
      boards_are = h.written.boards_are ∙ ap (λ ls. board_count plan ls t) (sym same);
    };
    printed = subst (λ ls. has (boards_after plan ls t)) (sym same) h.printed;
    within = h.within;
    short = short_still h.short;
  }

  pub gives_up_still : WriterBrokeOff layout plan lanes t boards old new → WriterBrokeOff layout plan lanes' t boards old new
  gives_up_still h =
      let b = h.broken in record {
        in_turn = in_turn_still h.in_turn;
        broken = record {
          part = record {
            front = b.part.front;
            rest = b.part.rest;
            is_text = b.part.is_text ∙ ap (λ ls. printed layout plan ls t) (sym same);
            is_proper = b.part.is_proper;
            appended = b.part.appended;
          };
          before = λ some. let last = b.before some in (last.0, ap (λ ls. printed layout plan ls (t - 1) ++ last.0) same ∙ last.1);
          boards_are = b.boards_are ∙ ap (λ ls. board_count plan ls (t - 1)) (sym same);
        };
        short = short_still h.short;
      }

-- what the k-th worker owes
owed_at : (plan : Planned) (form : Form) (lists : List (List Verdict)) (k : ℕ) (d : List Verdict)
    → Owes plan form lists → k < plan.workers → get_or lists k d ≡ verdicts_for plan form k
owed_at plan form lists k d owes lt = ap (λ ls. get_or ls k d) owes
    ∙ get_or-map-range_with_len (verdicts_for plan form) 0 plan.workers k k d lt (omega arith)

-- all workers of a plan were joined
module _ (plan : Planned) (form : Form) (n : ℕ) (lists : List (List Verdict)) (lanes : List OutView) (s u : Option ℕ)
    (all : n ≡ plan.workers) (owes : Owes plan form lists)
    (joined : JoinedAs n lists lanes s u) where
  pub joined_parts : ByNumber plan lanes (λ w l. l.settled ≡ true → IsPrefix (contents_of l) (verdicts_for plan form w))
  joined_parts w e lt settled = subst (IsPrefix (contents_of (get_or lanes w e)))
      (owed_at plan form lists w [] owes lt) (joined.parts w [] e (omega (arith, lt, all)) settled)

  pub joined_settled : u ≡ None → ByNumber plan lanes (λ w l. l.settled ≡ true)
  joined_settled none w e lt =
      MatchOption-at_none _ _ none joined.unclosed_is w [] e (omega (arith, lt, all))

  pub joined_whole : s ≡ None → ByNumber plan lanes (λ w l. l.settled ≡ true → contents_of l ≡ verdicts_for plan form w)
  joined_whole none w e lt settled =
      MatchOption-at_none _ _ none joined.stopped_is w [] e (omega (arith, lt, all)) settled ∙ owed_at plan form lists w [] owes lt

  pub all_whole : s ≡ None → u ≡ None → AllWhole plan form lanes
  all_whole none_s none_u w e lt =
      let settled = joined_settled none_u w e lt in (settled, joined_whole none_s w e lt settled)

  pub least_stopped : (w : ℕ) → s ≡ Some w → length lanes ≡ plan.workers → IsLeastStopped plan form lanes w
  least_stopped w is long =
      let h : (w < n) × Below WholeIfSettled w lists lanes × BeginningAt w lists lanes = MatchOption-at_some _ _ w is joined.stopped_is in
      let lt : w < plan.workers = omega (arith, h.0, all) in
      let here : w < length lanes = omega (arith, lt, long) in record {
        lane = get_or lanes w no_lane;
        at = slice_get-get_or lanes w no_lane here;
        settled = (h.2 [] no_lane).0;
        part = subst (IsProperPrefix (contents_of (get_or lanes w no_lane))) (owed_at plan form lists w [] owes lt) (h.2 [] no_lane).1;
        below = each_lane (λ v l. v < w → l.settled ≡ true → contents_of l ≡ verdicts_for plan form v) lanes
            (λ v e inside less settled. h.1 v [] e less settled ∙ owed_at plan form lists v [] owes (omega (arith, less, lt)));
      }

  pub least_unclosed : (w boards : ℕ) → u ≡ Some w → length lanes ≡ plan.workers
      → (plan.limit ≢ Some boards → ByNumber plan lanes (λ v l. l.settled ≡ true
      → contents_of l ≡ verdicts_for plan form v)) → IsLeastUnclosed plan form lanes w boards
  least_unclosed w boards is long whole =
      let h : (w < n) × Below IsSettled w lists lanes × UnsettledAt w lanes = MatchOption-at_some _ _ w is joined.unclosed_is in
      let lt : w < plan.workers = omega (arith, h.0, all) in
      let here : w < length lanes = omega (arith, lt, long) in record {
        lane = get_or lanes w no_lane;
        at = slice_get-get_or lanes w no_lane here;
        unsettled = h.2 no_lane;
        below = each_lane (λ v l. v < w → l.settled ≡ true) lanes (λ v e inside less. h.1 v [] e less);
        whole = λ less. each_number plan (λ v l. l.settled ≡ true → contents_of l ≡ verdicts_for plan form v) lanes long (whole less);
      }

-- a text that was broken off, with the number of all that was taken
pub stands_broken : (layout : Layout) (plan : Planned) (form : Form) (lanes : List OutView) (t boards : ℕ)
    (old new : Option (List ℕ)) → 0 < plan.workers → t ≤ plan.count
    → ByNumber plan lanes (λ w l. l.settled ≡ true → IsPrefix (contents_of l) (verdicts_for plan form w))
    → WriterBrokeOff layout plan lanes t boards old new → AreLanesConsistent plan form lanes
    × (BreaksOffLastPiece layout plan lanes (taken_in_all lanes) boards old new
    ⊎ BreaksOffFooter layout plan form lanes boards old new)
stands_broken layout plan form lanes t boards old new some le parts h =
    let total = taken_total plan lanes t some h.in_turn in (
      stand plan form lanes t some le h.in_turn h.short parts,
      inl (subst (λ m. BreaksOffLastPiece layout plan lanes m boards old new) (sym total) h.broken),
    )

-- a thread could not be started, when n were
pub not_started : (layout : Layout) (plan : Planned) (form : Form) (n : ℕ) (lists all : List (List Verdict))
    (idle lanes : List OutView) (s u : Option ℕ) (old : Option (List ℕ)) → 0 < plan.workers
    → length lanes ≡ plan.workers → n < plan.workers
    → Owes plan form all → lists ≡ take n all → JoinedAs n lists lanes s u
    → ((k : ℕ) (e : OutView) → n ≤ k → k < length lanes → (get_or lanes k e).settled ≡ false)
    → map (λ l. l.taken) lanes ≡ map (λ l. l.taken) idle → All (λ l. (l.taken ≡ []) × (l.settled ≡ false)) idle
    → InterruptedIn layout plan form Spawn lanes 0 old old
not_started layout plan form n lists all idle lanes s u old some long few owes some_of joined rest same fresh =
    let lens : length lanes ≡ length idle = simp length-map at (ap length same) in
    let none : All (λ l. l.taken ≡ []) lanes =
    λ w e lt. let short : w < length idle = omega (arith, lt, lens) in
    same_at (λ (l : OutView). l.taken) lanes idle w e same short ∙ (fresh w e short).0 in
    let in_turn = fresh_turns plan lanes long none in
    let total = taken_total plan lanes 0 some in_turn in (
      stand plan form lanes 0 some (omega arith) in_turn (λ i lt. absurd (omega arith)) parts,
      total,
      refl,
      refl,
      (
        n,
        record {
          worker = few;
          unsettled = each_lane (λ w l. n ≤ w → l.settled ≡ false) lanes (λ w e inside above. rest w e above inside);
        },
      ),
    )
  where
    parts : ByNumber plan lanes (λ w l. l.settled ≡ true → IsPrefix (contents_of l) (verdicts_for plan form w))
    parts w e lt settled =
        elim (cases_lt w n) [
          | inl started ↦
              let mine : get_or lists w [] ≡ verdicts_for plan form w = ap (λ ls. get_or ls w []) some_of
              ∙ get_or-take n all w [] started ∙ owed_at plan form all w [] owes lt in
              subst (IsPrefix (contents_of (get_or lanes w e))) mine (joined.parts w [] e started settled)
          | inr not_so ↦ absurd (both_ways _ (rest w e not_so (omega (arith, lt, long))) settled)
        ]

-- all workers were started: their handles owe what the plan's workers owe
pub all_owe : (plan : Planned) (form : Form) (n : ℕ) (lists all : List (List Verdict)) → lists ≡ take n all
    → n ≡ length all → Owes plan form all → Owes plan form lists
all_owe plan form n lists all some whole owes = some ∙ take_all n all (omega (arith, whole)) ∙ owes
