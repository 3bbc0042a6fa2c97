-- What the lanes hold while the writer takes from them.
use Rattle.std.proofs.Common.{◌≡◌, ◌<◌, ◌%◌, ℕ, Bool, true, false, List, [], ◌∷◌, ◌++◌, length, set, get_or, Some}
use Rattle.std.proofs.Common.{None, arith, ap, ◌∙◌, sym, subst, refl, append_assoc, length-append, if◌then◌else◌}
use Rattle.std.proofs.Math.Seq.{map-set_same}
use Rattle.conditions.specs.Form.{Form}
use Rattle.lanes.specs.declared.verdict.Verdict.{Verdict}
use Rattle.lanes.specs.Views.{OutView}
use Rattle.lanes.proofs.Places.{turns_less}
use Rattle.lanes.proofs.VerdictLists.{length-verdicts}
use Rattle.boards.specs.Plans.{Planned, candidate_of}
use Rattle.dealrun.specs.Headline.{contents_of}
use Rattle.dealrun.specs.internal.Joins.{AllWhole, ByNumber}
use Rattle.dealrun.specs.internal.Writing.{held, KeepsLanes, TakenInTurn}
use Rattle.dealrun.proofs.Finals.{same_at}

-- a lane of which fewer were taken than were sent has one left
pub some_left : (plan : Planned) (form : Form) (lanes : List OutView) (t place : ℕ) (l : OutView) → 0 < plan.workers
    → TakenInTurn plan lanes t → t < plan.count → place ≡ t % plan.workers → l ≡ get_or lanes place l
    → AllWhole plan form lanes → (l.settled ≡ true) × (0 < length l.left)
some_left plan form lanes t place l some taken less place_is l_is whole =
    let W = plan.workers in
    let w : ℕ = t % plan.workers in
    let rem : t % plan.workers < plan.workers = omega (arith, some) in
    let is : l ≡ get_or lanes w l = l_is ∙ ap (λ p. get_or lanes p l) place_is in
    let mine = whole w l rem in
    let more = turns_less W w t plan.count rem refl less in
    let all = ap (λ x. length (contents_of x)) is ∙ ap length mine.1 in
    let sent = length-verdicts (candidate_of plan) plan.first plan.count form W w in
    let got = ap (λ x. length x.taken) is ∙ taken.turns_are w l rem in
    (ap (λ x. x.settled) is ∙ mine.0, omega (arith, more, all, length-append l.taken l.left, sent, got))

-- two lanes that are settled alike, and hold the same if they are
held_same : (old new : OutView) → new.settled ≡ old.settled → (old.settled ≡ true → contents_of new ≡ contents_of old) → held new ≡ held old
held_same old new same all = by_cases old.settled new.settled (contents_of old) (contents_of new) same all
  where
    by_cases : (s s' : Bool) (xs ys : List Verdict) → s' ≡ s → (s ≡ true → ys ≡ xs) → (if s' then Some ys else None) ≡ (if s then Some xs else None)
    by_cases true true xs ys same all = ap (λ zs. Some zs) (all refl)
    by_cases false false xs ys same all = refl
    by_cases true false xs ys same all = absurd cc
    by_cases false true xs ys same all = absurd cc

-- what is kept twice is kept
pub keeps_on : (first mid last : List OutView) → KeepsLanes first mid → KeepsLanes mid last → KeepsLanes first last
keeps_on _ _ _ h k = record { rings = k.rings ∙ h.rings; settled = k.settled ∙ h.settled; contents = k.contents ∙ h.contents }

-- one lane more was looked at
pub keeps_more : (first lanes : List OutView) (w : ℕ) (old new : OutView) → KeepsLanes first lanes
    → old ≡ get_or lanes w old → (new.ring ≡ old.ring) × (new.settled ≡ old.settled)
    → (old.settled ≡ true → contents_of new ≡ contents_of old) → KeepsLanes first (set lanes w new)
keeps_more first lanes w old new kept at same contents = record {
  rings = map-set_same (λ l. l.ring) lanes w new old (same.0 ∙ ap (λ l. l.ring) at) ∙ kept.rings;
  settled = map-set_same (λ l. l.settled) lanes w new old (same.1 ∙ ap (λ l. l.settled) at) ∙ kept.settled;
  contents = map-set_same held lanes w new old (held_same old new same.1 contents ∙ ap held at) ∙ kept.contents;
}

-- and then a verdict was taken from it
pub keeps_taken : (first lanes : List OutView) (w : ℕ) (old mid new : OutView) (v : Verdict) → KeepsLanes first lanes
    → old ≡ get_or lanes w old → (mid.ring ≡ old.ring) × (mid.settled ≡ old.settled) → mid.taken ≡ old.taken
    → mid.left ≡ old.left
    → (new.ring ≡ mid.ring) × (new.settled ≡ mid.settled) → new.taken ≡ mid.taken ++ v ∷ []
    → (mid.settled ≡ true → mid.left ≡ v ∷ new.left) → KeepsLanes first (set lanes w new)
keeps_taken first lanes w old mid new v kept at looked taken left same took gave =
    keeps_more first lanes w old new kept at (same.0 ∙ looked.0, same.1 ∙ looked.1)
    (λ settled. let moved : new.taken ++ new.left ≡ mid.taken ++ mid.left =
    ap (λ xs. xs ++ new.left) took ∙ append_assoc mid.taken (v ∷ []) new.left ∙ ap (λ xs. mid.taken ++ xs) (sym (gave (looked.1 ∙ settled))) in
    cc)

-- what a settled lane holds is what it held
held_is : (l l' : OutView) → l.settled ≡ true → l'.settled ≡ l.settled → held l' ≡ held l → contents_of l' ≡ contents_of l
held_is l l' settled same is = by_cases l.settled l'.settled (contents_of l) (contents_of l') settled same is
  where
    by_cases : (s s' : Bool) (xs ys : List Verdict) → s ≡ true → s' ≡ s → (if s' then Some ys else None) ≡ (if s then Some xs else None) → ys ≡ xs
    by_cases true true xs ys settled same is = cc
    by_cases true false xs ys settled same is = absurd cc
    by_cases false s' xs ys settled same is = absurd cc

-- what is said of settled lanes, and of what each holds, is still so
pub still : (plan : Planned) (lanes lanes' : List OutView) (P : ℕ → List Verdict → Type 0)
    → length lanes ≡ plan.workers → KeepsLanes lanes lanes'
    → ByNumber plan lanes (λ w l. (l.settled ≡ true) × P w (contents_of l))
    → ByNumber plan lanes' (λ w l. (l.settled ≡ true) × P w (contents_of l))
still plan lanes lanes' P long kept h w e lt =
    let inside : w < length lanes = omega (arith, lt, long) in
    let was = h w e lt in
    let settled = same_at (λ (l : OutView). l.settled) lanes' lanes w e kept.settled inside in (
      settled ∙ was.0,
      subst (P w) (sym (held_is (get_or lanes w e) (get_or lanes' w e) was.0 settled
          (same_at held lanes' lanes w e kept.contents inside))) was.1,
    )
