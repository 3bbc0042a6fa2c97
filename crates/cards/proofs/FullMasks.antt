-- Four hands of a deal as masks: no bit twice, together all 52, thirteen each.
use Rattle.std.proofs.Common.{◌≡◌, ℕ, ◌+◌, ◌-◌, ◌^◌, ◌<◌, ◌==◌, ◌≢◌, max, min, Bool, cond, List, map, get_or, refl, sym, ◌∙◌, ap, arith, subst}
use Rattle.std.specs.Int.{bit_at}
use Rattle.std.specs.Int.RustNames.{bit_and, bit_or, count_ones}
use Rattle.std.specs.List.{count_by}
use Rattle.std.proofs.lemmas.Bool.Decides.{nat_tests}
use lib.Lanes.{mask_l}
use Rattle.std.proofs.lemmas.Nat.{or_lt, and_le_l, and_comm, and_or_apart, or_disjoint}
use Rattle.std.proofs.lemmas.Nat.Bits.{same_from_bits_below, bit_at_and, bit_at_or, bit_at_ones, bit_at-zero}
use Rattle.std.proofs.lemmas.Simd.{ones-mask_l}
use Rattle.cards.specs.declared.seat.Seat.{Seat}
use Rattle.cards.specs.declared.seat.Seat.TheVariants.{North, East, South, West}
use Rattle.cards.specs.Pack.{seat_number}
use Rattle.cards.specs.Deals.{IsPartition}
use Rattle.cards.specs.internal.Masks.{seat_mask, seats_of_masks, IsFull, IsMasks}
use Rattle.cards.specs.internal.PackedMasks.{rest_of}
use Rattle.cards.proofs.DealMasks.{bit_at_seat, seat_mask-lt, masks_view}

-- the bit of one seat at a card of another's
abbrev bit_of : Seat → Seat → ℕ
bit_of holder seat = cond (seat_number holder == seat_number seat) 1 0

exclusive : (x p q : ℕ) → p ≢ q → min (cond (x == p) 1 0) (cond (x == q) 1 0) ≡ 0
exclusive x p q ne = grind (arith, nat_tests)

some_seat : (holder : Seat) → max (max (bit_of holder North) (bit_of holder East)) (max (bit_of holder South) (bit_of holder West)) ≡ 1
some_seat North = refl
some_seat x = refl

bit_held : (deal : List Seat) (seat : Seat) (i : ℕ) → IsPartition deal → i < 52 → bit_at (seat_mask deal seat) i ≡ bit_of (get_or deal i North) seat
bit_held deal seat i ok h = bit_at_seat deal seat i (rw ok.count h)

apart : (deal : List Seat) (a b : Seat) → IsPartition deal → seat_number a ≢ seat_number b → bit_and (seat_mask deal a) (seat_mask deal b) ≡ 0
apart deal a b ok ne =
    same_from_bits_below 52 (bit_and (seat_mask deal a) (seat_mask deal b)) 0
    (omega (arith, and_le_l (seat_mask deal a) (seat_mask deal b), seat_mask-lt deal a ok)) (omega arith)
    (λ i h.
    bit_at_and (seat_mask deal a) (seat_mask deal b) i
    ∙ ap (λ x. min x (bit_at (seat_mask deal b) i)) (bit_held deal a i ok h) ∙ ap (min (bit_of (get_or deal i North) a)) (bit_held deal b i ok h)
    ∙ exclusive (seat_number (get_or deal i North)) (seat_number a) (seat_number b) ne ∙ sym (bit_at-zero i))

four_bits : (n e s w n' e' s' w' : ℕ) → n ≡ n' → e ≡ e' → s ≡ s' → w ≡ w' → max (max n e) (max s w) ≡ max (max n' e') (max s' w')
four_bits n e s w n' e' s' w' p q r t = rw (p, q, r, t) refl

together : (deal : List Seat) → IsPartition deal → bit_or (bit_or (seat_mask deal North) (seat_mask deal East))
    (bit_or (seat_mask deal South) (seat_mask deal West)) ≡ 2 ^ 52 - 1
together deal ok =
    let n : ℕ = seat_mask deal North in
    let e : ℕ = seat_mask deal East in
    let s : ℕ = seat_mask deal South in
    let w : ℕ = seat_mask deal West in
    same_from_bits_below 52 (bit_or (bit_or n e) (bit_or s w)) (2 ^ 52 - 1)
    (or_lt 52 (bit_or n e) (bit_or s w) (or_lt 52 n e (seat_mask-lt deal North ok) (seat_mask-lt deal East ok))
    (or_lt 52 s w (seat_mask-lt deal South ok) (seat_mask-lt deal West ok))) (omega arith)
    (λ i h.
    bit_at_or (bit_or n e) (bit_or s w) i
    ∙ ap (λ x. max x (bit_at (bit_or s w) i)) (bit_at_or n e i) ∙ ap (max (max (bit_at n i) (bit_at e i))) (bit_at_or s w i)
    ∙ four_bits _ _ _ _ _ _ _ _ (bit_held deal North i ok h) (bit_held deal East i ok h) (bit_held deal South i ok h) (bit_held deal West i ok h)
    ∙ some_seat (get_or deal i North) ∙ sym (bit_at_ones 52 i h))

counted : (p : Seat → Bool) (deal : List Seat) → count_ones (mask_l (map p deal)) ≡ count_by p deal
counted p deal = ones-mask_l p deal

thirteen : (deal : List Seat) (seat : Seat) → IsPartition deal → count_ones (seat_mask deal seat) ≡ 13
thirteen deal seat ok = counted (λ holder. seat_number holder == seat_number seat) deal ∙ ok.thirteen seat

pub full_masks : (deal : List Seat) → IsPartition deal
    → IsFull (seat_mask deal North) (seat_mask deal East) (seat_mask deal South) (seat_mask deal West)
full_masks deal ok = record {
  apart = (
    apart deal North East ok (omega arith),
    apart deal North South ok (omega arith),
    apart deal North West ok (omega arith),
    apart deal East South ok (omega arith),
    apart deal East West ok (omega arith),
    apart deal South West ok (omega arith),
  );
  together = together deal ok;
  thirteen = (thirteen deal North ok, thirteen deal East ok, thirteen deal South ok, thirteen deal West ok);
}

apart_from_both : (a s w : ℕ) → bit_and a s ≡ 0 → bit_and a w ≡ 0 → bit_and a (bit_or s w) ≡ 0
apart_from_both a s w p q =
    and_comm a (bit_or s w) ∙ and_or_apart a s w (and_comm w a ∙ q) ∙ and_comm s a ∙ p

-- no bit twice and together all 52: so they add up
pub sum_of_full : (n e s w : ℕ) → IsFull n e s w → n + e + s + w ≡ 2 ^ 52 - 1
sum_of_full n e s w full =
    let (ne, ns, nw, es, ew, sw) = full.apart in
    let none : bit_and (bit_or n e) (bit_or s w) ≡ 0 =
    and_or_apart (bit_or s w) n e (apart_from_both e s w es ew) ∙ apart_from_both n s w ns nw in
    let all : bit_or (bit_or n e) (bit_or s w) ≡ 2 ^ 52 - 1 = full.together in
    omega (arith, or_disjoint n e ne, or_disjoint s w sw, or_disjoint (bit_or n e) (bit_or s w) none, all)

-- the masks of a partition are those of a deal
pub masks_of_partition : (deal : List Seat) (n e s w : ℕ) → IsPartition deal → n ≡ seat_mask deal North
    → e ≡ seat_mask deal East → s ≡ seat_mask deal South → w ≡ seat_mask deal West → IsMasks n e s w
masks_of_partition deal n e s w ok en ee es ew =
    let view = masks_view deal n e s ok en ee es in
    record {
      full = rw (en, ee, es, ew) (full_masks deal ok);
      partition = let back : IsPartition (seats_of_masks n e s) = subst IsPartition (sym view) ok in back;
      north = en ∙ ap (λ d. seat_mask d North) (sym view);
      east = ee ∙ ap (λ d. seat_mask d East) (sym view);
      south = es ∙ ap (λ d. seat_mask d South) (sym view);
      west = ew ∙ ap (λ d. seat_mask d West) (sym view);
    }

-- North has what the three other hands of a deal leave
pub rest_to_north : (deal : List Seat) (e s w : ℕ) → IsPartition deal → e ≡ seat_mask deal East → s ≡ seat_mask deal South → w ≡ seat_mask deal West
    → (IsMasks (rest_of e s w) e s w) × (seats_of_masks (rest_of e s w) e s ≡ deal)
rest_to_north deal e s w ok ee es ew =
    let sum = sum_of_full _ _ _ _ (full_masks deal ok) in
    let en : rest_of e s w ≡ seat_mask deal North = omega (arith, sum, ee, es, ew) in
    (masks_of_partition deal (rest_of e s w) e s w ok en ee es ew, masks_view deal (rest_of e s w) e s ok en ee es)

-- and East what the three others leave
pub rest_to_east : (deal : List Seat) (n s w : ℕ) → IsPartition deal → n ≡ seat_mask deal North → s ≡ seat_mask deal South → w ≡ seat_mask deal West
    → (IsMasks n (rest_of n s w) s w) × (seats_of_masks n (rest_of n s w) s ≡ deal)
rest_to_east deal n s w ok en es ew =
    let sum = sum_of_full _ _ _ _ (full_masks deal ok) in
    let ee : rest_of n s w ≡ seat_mask deal East = omega (arith, sum, en, es, ew) in
    (masks_of_partition deal n (rest_of n s w) s w ok en ee es ew, masks_view deal n (rest_of n s w) s ok en ee es)
