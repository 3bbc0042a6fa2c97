-- What fixed cards tell of a count is true.
use Rattle.std.proofs.Common.{◌≡◌, ◌≤◌, ◌<◌, ◌+◌, ◌*◌, ◌∙◌, ℕ, zero, suc, All, Bool, true, false, cond, List}
use Rattle.std.proofs.Common.{[], ◌∷◌, Option, Some, None, IfSome, ap, arith, get_or, length, map, option_map, refl}
use Rattle.std.proofs.Common.{sym, unwrap_or}
use Rattle.std.specs.List.{range_with_len, sum_by}
use Rattle.std.proofs.Math.Nat.{mul-add}
use Rattle.std.proofs.lemmas.List.FromFn.{fill_by_all}
use Rattle.std.proofs.lemmas.List.Elements.{All-head, All-tail}
use Rattle.std.proofs.lemmas.List.Sums.{sum_by-cons}
use Rattle.std.proofs.lemmas.Option.{get_or_from_slice_get, slice_get-get_or}
use Rattle.std.specs.Prelude.{slice_get}
use Rattle.cards.specs.declared.seat.Seat.{Seat}
use Rattle.cards.specs.declared.seat.Seat.TheVariants.{North}
use Rattle.cards.specs.Counts.{has_honour}
use Rattle.cards.specs.Deals.{IsPartition}
use Rattle.cards.specs.Hands.{hand_of, holds_card}
use Rattle.cards.specs.Measures.{four_weights, weights_of}
use Rattle.cards.specs.Fixed.{IsFixed, held, is_fixed_at, room}
use Rattle.cards.specs.Pack.{is_in_suit, rank_of}
use Rattle.cards.specs.Shuffle.{pack}
use Rattle.conditions.specs.declared.tree.Count.{Count}
use Rattle.conditions.specs.declared.tree.Count.TheVariants as counts
use Rattle.conditions.specs.Form.{counted}
use Rattle.screens.specs.internal.Shares.{card_weight, is_at}
use Rattle.screens.proofs.CardByCard.{counted_least, counted_most, holder, in_pack, read_hand, same_in}
use Rattle.conditions.proofs.HandBounds.{both, thirteen}
use Rattle.screens.specs.Facts.{IsTrueOf}
use Rattle.screens.specs.Held.{card_share, fact_on, had, heaviest, heaviest_of}
use Rattle.screens.specs.SingleCards.{counts_for, rank_weight, whose}
use Rattle.screens.specs.Completions.{Keeps}

-- ---- sums

sum_le : (f g : ℕ → ℕ) → ((c : ℕ) → c < 52 → f c ≤ g c) → (xs : List ℕ) → All (λ c. c < 52) xs → sum_by f xs ≤ sum_by g xs
sum_le f g e [] within = omega arith
sum_le f g e (x ∷ xs) within =
    omega (
      arith,
      sum_by-cons f x xs,
      sum_by-cons g x xs,
      e x (All-head (λ c. c < 52) x xs within),
      sum_le f g e xs (All-tail (λ c. c < 52) x xs within),
    )

-- ---- a card that is fixed, or free

cond_le : (b : Bool) (n : ℕ) → cond b n 0 ≤ n
cond_le true n = omega arith
cond_le false n = omega arith

share_low : (k : Count) (c : ℕ) (o : Option Seat) (q : Seat) → ((p : Seat) → o ≡ Some p → q ≡ p) → card_share k c o false ≤ card_weight k c q
share_low k c None q stays = omega arith
share_low k c (Some p) q stays =
    let e : q ≡ p = stays p refl in
    omega (arith, ap (λ r. cond (is_at (whose k) r) (counts_for k c) 0) e)

share_high : (k : Count) (c : ℕ) (o : Option Seat) (q : Seat) → ((p : Seat) → o ≡ Some p → q ≡ p) → card_weight k c q ≤ card_share k c o true
share_high k c None q stays = cond_le (is_at (whose k) q) (counts_for k c)
share_high k c (Some p) q stays =
    let e : q ≡ p = stays p refl in
    omega (arith, ap (λ r. cond (is_at (whose k) r) (counts_for k c) 0) e)

-- the holder of a fixed card
stays_at : (fixed : List (Option Seat)) (deal : List Seat) (c : ℕ) → IsFixed fixed → Keeps fixed deal → c < 52
    → (p : Seat) → get_or fixed c None ≡ Some p → holder deal c ≡ p
stays_at fixed deal c is keeps within p e =
    let here : slice_get fixed c ≡ Some (Some p) = slice_get-get_or fixed c None (omega (arith, is.count)) ∙ ap Some e in
    get_or_from_slice_get deal c p North (keeps.fixed_stay c p here)

-- ---- the room that a seat has

rank_heaviest : (w : List ℕ) (n : ℕ) → length w ≡ 4 → get_or w n 0 ≤ heaviest_of w
rank_heaviest (a ∷ k ∷ q ∷ j ∷ []) zero four = omega arith
rank_heaviest (a ∷ k ∷ q ∷ j ∷ []) (suc zero) four = omega arith
rank_heaviest (a ∷ k ∷ q ∷ j ∷ []) (suc (suc zero)) four = omega arith
rank_heaviest (a ∷ k ∷ q ∷ j ∷ []) (suc (suc (suc zero))) four = omega arith
rank_heaviest (a ∷ k ∷ q ∷ j ∷ []) (suc (suc (suc (suc n)))) four = omega arith
rank_heaviest [] n four = absurd (omega (arith, four))
rank_heaviest (a ∷ []) n four = absurd (omega (arith, four))
rank_heaviest (a ∷ k ∷ []) n four = absurd (omega (arith, four))
rank_heaviest (a ∷ k ∷ q ∷ []) n four = absurd (omega (arith, four))
rank_heaviest (a ∷ k ∷ q ∷ j ∷ x ∷ xs) n four = absurd (omega (arith, four))

measure_heaviest : (o : Option (List ℕ)) (n : ℕ) → IfSome o (λ w. length w ≡ 4)
    → unwrap_or (option_map (λ w. get_or w n 0) o) 0 ≤ unwrap_or (option_map heaviest_of o) 0
measure_heaviest (Some w) n four = rank_heaviest w n four
measure_heaviest None n four = omega arith

card_heaviest : (k : Count) (c : ℕ) → counts_for k c ≤ heaviest k
card_heaviest (counts.Total m q) c = measure_heaviest (weights_of m) (rank_of c) (four_weights m)
card_heaviest (counts.SuitTotal m q s) c =
    omega (arith, cond_le (is_in_suit s c) (rank_weight m c), measure_heaviest (weights_of m) (rank_of c) (four_weights m))
card_heaviest (counts.Cards q h) c = cond_le (has_honour h (rank_of c)) 1
card_heaviest (counts.SuitCards q s h) c =
    omega (arith, cond_le (is_in_suit s c) (cond (has_honour h (rank_of c)) 1 0), cond_le (has_honour h (rank_of c)) 1)
card_heaviest (counts.Length q s) c = cond_le (is_in_suit s c) 1
card_heaviest (counts.Ordered o q) c = omega arith

-- a card that a seat has is fixed there, or counts at most as much as the heaviest
one_by_room : (b : Bool) (w heavy : ℕ) → w ≤ heavy → cond b w 0 + heavy * 0 ≤ 0 + heavy * cond b 1 0
one_by_room true w heavy h = omega (arith, h)
one_by_room false w heavy h = omega arith

by_room : (k : Count) (c : ℕ) (o : Option Seat) (q : Seat) → ((p : Seat) → o ≡ Some p → q ≡ p)
    → cond (is_at (whose k) q) (counts_for k c) 0 + heaviest k * cond (is_fixed_at (whose k) o) 1 0
    ≤ card_share k c o false + heaviest k * cond (is_at (whose k) q) 1 0
by_room k c None q stays = one_by_room (is_at (whose k) q) (counts_for k c) (heaviest k) (card_heaviest k c)
by_room k c (Some p) q stays =
    let e : q ≡ p = stays p refl in
    omega (arith, ap (λ r. cond (is_at (whose k) r) (counts_for k c) 0) e, ap (λ r. heaviest k * cond (is_at (whose k) r) 1 0) e)

scaled : (n : ℕ) (f : ℕ → ℕ) (xs : List ℕ) → sum_by (λ c. n * f c) xs ≡ n * sum_by f xs
scaled n f [] = omega arith
scaled n f (x ∷ xs) = omega (
  arith,
  sum_by-cons (λ c. n * f c) x xs,
  ap (λ k. n * k) (sum_by-cons f x xs),
  mul-add n (f x) (sum_by f xs),
  scaled n f xs,
)

-- thirteen cards are at the seat, and as many are fixed there as the list says
all_at : (deal : List Seat) (q : Seat) → IsPartition deal → sum_by (λ c. cond (is_at q (holder deal c)) 1 0) pack ≡ 13
all_at deal q ok =
    sym (same_in (λ c. cond (holds_card (hand_of deal q) c) 1 0) (λ c. cond (is_at q (holder deal c)) 1 0)
    (λ c within. ap (λ b. cond b 1 0) (read_hand deal q c ok within)) pack in_pack)
    ∙ thirteen deal q ok

mapped : {X : Type 0} (p : X → Bool) (f : ℕ → X) (xs : List ℕ) → sum_by (λ x. cond (p x) 1 0) (map f xs) ≡ sum_by (λ c. cond (p (f c)) 1 0) xs
mapped p f [] = refl
mapped p f (x ∷ xs) =
    sum_by-cons (λ y. cond (p y) 1 0) (f x) (map f xs)
    ∙ ap (λ n. cond (p (f x)) 1 0 + n) (mapped p f xs)
    ∙ sym (sum_by-cons (λ c. cond (p (f c)) 1 0) x xs)

all_fixed : (fixed : List (Option Seat)) (q : Seat) → IsFixed fixed → sum_by (λ c. cond (is_fixed_at q (get_or fixed c None)) 1 0) pack ≡ held fixed q
unfolding pack
all_fixed fixed q is =
    sym (mapped (is_fixed_at q) (λ c. get_or fixed c None) (range_with_len 0 52))
    ∙ ap (sum_by (λ x. cond (is_fixed_at q x) 1 0)) (sym (fill_by_all (λ c. get_or fixed c None) fixed 52 None is.count (λ i h. refl)))

within_room : (fixed : List (Option Seat)) (deal : List Seat) (k : Count) → IsFixed fixed → Keeps fixed deal
    → sum_by (λ c. cond (is_at (whose k) (holder deal c)) (counts_for k c) 0) pack ≤ had fixed k false + heaviest k * room fixed (whose k)
unfolding had
within_room fixed deal k is keeps =
    let q : Seat = whose k in
    let heavy : ℕ = heaviest k in
    let at : ℕ → ℕ = λ c. cond (is_at q (holder deal c)) (counts_for k c) 0 in
    let fixed_there : ℕ → ℕ = λ c. cond (is_fixed_at q (get_or fixed c None)) 1 0 in
    let there : ℕ → ℕ = λ c. cond (is_at q (holder deal c)) 1 0 in
    let own : ℕ → ℕ = λ c. card_share k c (get_or fixed c None) false in
    let few : held fixed q ≤ 13 = is.room q in
    let thirteen_is : 13 ≡ held fixed q + room fixed q = omega arith in
    omega (
      arith,
      sum_le (λ c. at c + heavy * fixed_there c) (λ c. own c + heavy * there c)
          (λ c within. by_room k c (get_or fixed c None) (holder deal c) (stays_at fixed deal c is keeps within)) pack in_pack,
      both at (λ c. heavy * fixed_there c) pack,
      both own (λ c. heavy * there c) pack,
      scaled heavy fixed_there pack,
      scaled heavy there pack,
      ap (λ n. heavy * n) (all_fixed fixed q is),
      ap (λ n. heavy * n) (all_at deal q keeps.partition),
      ap (λ n. heavy * n) thirteen_is,
      mul-add heavy (held fixed q) (room fixed q),
    )

pub fact_holds : (fixed : List (Option Seat)) (deal : List Seat) (k : Count) → IsFixed fixed → Keeps fixed deal → IsTrueOf deal (fact_on fixed k)
unfolding had
fact_holds fixed deal k is keeps = record {
  low = omega (
    arith,
    sum_le (λ c. card_share k c (get_or fixed c None) false) (λ c. card_weight k c (holder deal c))
        (λ c within. share_low k c (get_or fixed c None) (holder deal c) (stays_at fixed deal c is keeps within)) pack in_pack,
    counted_least deal keeps.partition (counted k),
  );
  high = omega (
    arith,
    sum_le (λ c. card_weight k c (holder deal c)) (λ c. card_share k c (get_or fixed c None) true)
        (λ c within. share_high k c (get_or fixed c None) (holder deal c) (stays_at fixed deal c is keeps within)) pack in_pack,
    counted_most deal keeps.partition (counted k),
    within_room fixed deal k is keeps,
  );
}
