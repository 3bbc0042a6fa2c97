-- From how a run ended to what its cause says, or to what may still be written.
use Rattle.std.proofs.Common.{◌≡◌, ◌<◌, ◌≤◌, ℕ, true, List, [], map, Option, None, Some, MatchOption, ap, arith, refl, subst, sym}
use Rattle.boards.specs.declared.board.Board.{Board}
use Rattle.boards.specs.Layouts.{Layout}
use Rattle.conditions.specs.Form.{Form}
use Rattle.lanes.specs.declared.verdict.Verdict.{Verdict}
use Rattle.lanes.specs.Views.{OutView}
use Rattle.lanes.specs.Prefixes.{IsPrefix}
use Rattle.boards.specs.Plans.{Planned}
use Rattle.lanes.specs.Jobs.{verdicts_for}
use Rattle.dealrun.specs.Headline.{contents_of}
use Rattle.dealrun.specs.Interrupted.{InterruptedIn, StandsCompleteIn}
use Rattle.boards.specs.declared.cause.Cause.{Cause}
use Rattle.dealrun.specs.declared.join.Written.{Written}
use Rattle.dealrun.specs.declared.join.Written.TheVariants.{Failed, Full, Open}
use Rattle.dealrun.specs.declared.writer.Writer.{Writer}
use Rattle.dealrun.specs.internal.Causes.{cause_by}
use Rattle.dealrun.specs.internal.Joins.{AllParts, ByNumber, JoinedAs, Owes}
use Rattle.dealrun.specs.internal.Writing.{HasRest, WriterSoFar, WroteBeside}
use Rattle.dealrun.proofs.Endings.{stand_complete}
use Rattle.dealrun.proofs.Finals.{all_whole, gives_up_still, goes_on_still, joined_parts, joined_settled}
use Rattle.dealrun.proofs.Finals.{joined_whole, least_stopped, least_unclosed, stands_broken}

-- lanes from which the same was taken
pub wrote_still : (layout : Layout) (has : List Board → Type 0) (plan : Planned) (written : Written)
    (lanes lanes' : List OutView) (t boards : ℕ) (old new : Option (List ℕ))
    → map (λ l. l.taken) lanes' ≡ map (λ l. l.taken) lanes
    → WroteBeside layout has plan written lanes t boards old new → WroteBeside layout has plan written lanes' t boards old new
wrote_still layout has plan Failed lanes lanes' t boards old new same h = gives_up_still layout plan lanes lanes' t boards old new same h
wrote_still layout has plan Full lanes lanes' t boards old new same h = (goes_on_still layout plan lanes lanes' t boards old new same has h.0, h.1)
wrote_still layout has plan Open lanes lanes' t boards old new same h = (goes_on_still layout plan lanes lanes' t boards old new same has h.0, h.1)

-- all workers of a plan were joined
module _ (layout : Layout) (has : List Board → Type 0) (plan : Planned) (form : Form) (n : ℕ)
    (lists : List (List Verdict)) (lanes : List OutView) (t boards : ℕ) (old new : Option (List ℕ))
    (some : 0 < plan.workers) (all : n ≡ plan.workers) (le : t ≤ plan.count)
    (owes : Owes plan form lists) where
  parts : (s u : Option ℕ) → JoinedAs n lists lanes s u
      → ByNumber plan lanes (λ w l. l.settled ≡ true → IsPrefix (contents_of l) (verdicts_for plan form w))
  parts s u joined = joined_parts plan form n lists lanes s u all owes joined

  settled_parts : (s : Option ℕ) → JoinedAs n lists lanes s None → AllParts plan form lanes
  settled_parts s joined w e lt =
      let settled = joined_settled plan form n lists lanes s None all owes joined refl w e lt in (settled, parts s None joined w e lt settled)

  stands : (s u : Option ℕ) → WriterSoFar layout has plan lanes t boards old new → JoinedAs n lists lanes s u
      → StandsCompleteIn layout [] plan form lanes boards old new
  stands s u wrote joined = stand_complete layout has plan form lanes t boards old new some le wrote (parts s u joined)

  pub at_end : (written : Written) (s u : Option ℕ) → WroteBeside layout has plan written lanes t boards old new → JoinedAs n lists lanes s u
      → MatchOption (cause_by written s u) (HasRest layout has plan form lanes t boards old new)
      (λ cause. InterruptedIn layout plan form cause lanes boards old new)
  at_end Failed s u wrote joined = stands_broken layout plan form lanes t boards old new some le (parts s u joined) wrote
  at_end Full s None wrote joined = record {
    so_far = wrote.0;
    parts = settled_parts s joined;
    whole = λ less. absurd (less wrote.1);
  }
  at_end Full s (Some w) wrote joined = (
    stands s (Some w) wrote.0 joined,
    least_unclosed plan form n lists lanes s (Some w) all owes joined w boards refl wrote.0.in_turn.long (λ less. absurd (less wrote.1)),
  )
  at_end Open None None wrote joined = record {
    so_far = wrote.0;
    parts = settled_parts None joined;
    whole = λ _. all_whole plan form n lists lanes None None all owes joined refl refl;
  }
  at_end Open None (Some w) wrote joined = (
    stands None (Some w) wrote.0 joined,
    least_unclosed plan form n lists lanes None (Some w) all owes joined w boards refl wrote.0.in_turn.long
        (λ _. joined_whole plan form n lists lanes None (Some w) all owes joined refl),
  )
  at_end Open (Some w) u wrote joined = (
    stands (Some w) u wrote.0 joined,
    wrote.1,
    least_stopped plan form n lists lanes (Some w) u all owes joined w refl wrote.0.in_turn.long,
  )

-- what follows once the workers of a writer were joined
pub at_join : (layout now : Layout) (has : List Board → Type 0) (plan : Planned) (form : Form) (w : Writer) (n : ℕ)
    (lists : List (List Verdict)) (lanes : List OutView) (written : Written) (s u : Option ℕ) (cause : Option Cause)
    (old new : Option (List ℕ))
    → now ≡ layout → w.plan ≡ plan → n ≡ plan.workers → Owes plan form lists
    → map (λ l. l.taken) lanes ≡ map (λ l. l.taken) w.lanes.items
    → WroteBeside layout has w.plan written w.lanes.items w.progress.taken w.progress.boards old new
    → JoinedAs n lists lanes s u → cause ≡ cause_by written s u
    → MatchOption cause (HasRest now has w.plan form lanes w.progress.taken w.progress.boards old new)
    (λ cause. InterruptedIn layout plan form cause lanes w.progress.boards old new)
at_join layout now has plan form w n lists lanes written s u cause old new same plan_is all owes taken wrote joined cause_is =
    subst (λ p. MatchOption cause (HasRest now has w.plan form lanes w.progress.taken w.progress.boards old new)
    (λ cause. InterruptedIn layout p form cause lanes w.progress.boards old new)) plan_is
    (subst (λ l. MatchOption cause (HasRest l has w.plan form lanes w.progress.taken w.progress.boards old new)
    (λ cause. InterruptedIn layout w.plan form cause lanes w.progress.boards old new)) (sym same)
    (subst (λ o. MatchOption o (HasRest layout has w.plan form lanes w.progress.taken w.progress.boards old new)
    (λ cause. InterruptedIn layout w.plan form cause lanes w.progress.boards old new)) (sym cause_is)
    (at_end layout has w.plan form n lists lanes w.progress.taken w.progress.boards old new w.some
    (omega (arith, ap (λ p. p.workers) plan_is)) w.few (subst (λ p. Owes p form lists) (sym plan_is) owes) written
    s u
    (wrote_still layout has w.plan written w.lanes.items lanes w.progress.taken w.progress.boards old new taken wrote) joined)))

-- what is said in an equal layout and of an equal plan
pub said_at : (P : Layout → Planned → Type 0) (layout now : Layout) (plan other : Planned) → now ≡ layout → other ≡ plan → P now other → P layout plan
said_at P layout now plan other same is h = subst (P layout) is (subst (λ l. P l other) same h)
