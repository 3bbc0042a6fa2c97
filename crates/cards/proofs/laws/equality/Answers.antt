use Rattle.std.proofs.Common.{◌≡◌, ℕ, ◌==◌, ◌&&◌, ◌↔◌, Bool, true, List, sym, ◌∙◌, ap, arith}
use Rattle.std.specs.Prelude.{IsTrue}
use Rattle.std.proofs.lemmas.Bool.Decides.{nat_tests}
use Rattle.cards.specs.declared.seat.Seat.{Seat}
use Rattle.cards.specs.declared.seat.Seat.TheVariants.{North, East, South, West}
use Rattle.cards.specs.Deals.{IsPartition}
use Rattle.cards.specs.internal.Masks.{seat_mask, seats_of_masks}
use Rattle.cards.proofs.DealMasks.{masks_of_seats}
use Rattle.cards.proofs.laws.equality.Goals as goal

four_same : (n e s w n' e' s' w' : ℕ) → (n == n' && (e == e' && (s == s' && w == w'))) ≡ true → (n ≡ n') × (e ≡ e') × (s ≡ s')
four_same n e s w n' e' s' w' h = grind (arith, nat_tests)

itself : (n e s w : ℕ) → (n == n && (e == e && (s == s && w == w))) ≡ true
itself n e s w = grind (arith, nat_tests)

-- deals with the same masks are the same
same_deals : (a b : List Seat) (same : Bool) → IsPartition a → IsPartition b
    → same ≡ (seat_mask a North == seat_mask b North && (seat_mask a East == seat_mask b East &&
    (seat_mask a South == seat_mask b South && seat_mask a West == seat_mask b West)))
    → IsTrue same ↔ (a ≡ b)
same_deals a b same p q is = (
  λ h.
      let e = four_same _ _ _ _ _ _ _ _ (sym is ∙ h) in
      sym (masks_of_seats a p.count)
      ∙ ap (λ m. seats_of_masks m (seat_mask a East) (seat_mask a South)) e.0
      ∙ ap (λ m. seats_of_masks (seat_mask b North) m (seat_mask a South)) e.1
      ∙ ap (seats_of_masks (seat_mask b North) (seat_mask b East)) e.2
      ∙ masks_of_seats b q.count,
  λ e. is ∙ rw e (itself (seat_mask b North) (seat_mask b East) (seat_mask b South) (seat_mask b West)),
)

pub returns : goal.returns
returns c = same_deals c.args.a.now c.args.b.now c.eq.result c.keep_partition.ensures c.keep_partition-2.ensures c.eq.ensures
