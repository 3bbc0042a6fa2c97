-- Weights in four masks, and what the cards of a mask weigh.
use Rattle.std.proofs.Common.{◌≡◌, ℕ, zero, suc, ◌+◌, ◌*◌, ◌%◌, ◌^◌, ◌<◌, ◌≤◌, ◌==◌, ◌&&◌, All, Bool, true, false}
use Rattle.std.proofs.Common.{cond, List, [], ◌∷◌, length, get_or, map, take, refl, sym, ◌∙◌, ap, arith, inl, inr}
use Rattle.std.specs.Int.{bit_at}
use Rattle.std.specs.Int.RustNames.{bit_and, bit_or, count_ones}
use Rattle.std.specs.List.{count_by, sum_by, range_with_len}
use Rattle.std.proofs.lemmas.Bool.{cases_lt}
use Rattle.std.proofs.lemmas.List.Elements.{All-get_or}
use Rattle.std.proofs.lemmas.List.{ext_get_or, get_or_past, get_or-map}
use Rattle.std.proofs.lemmas.List.FromFn.{get_or-map-range_with_len, length-map-range_with_len, length-range_with_len}
use Rattle.std.proofs.lemmas.List.Sums.{sum_by-cons, count_by-le-length}
use Rattle.std.proofs.lemmas.Nat.{one_shl}
use Rattle.std.proofs.lemmas.Nat.Bits.{bit_at_above, bit_at-lt}
use Rattle.std.proofs.lemmas.Simd.{bit_mask_l}
use lib.Lanes.{mask_l}
use Rattle.cards.specs.Hands.{holds_card}
use Rattle.cards.specs.Shuffle.{pack}
use Rattle.cards.specs.Weights.{weighed}
use Rattle.cards.specs.internal.MaskBits.{mask_of_cards, test_bit}
use Rattle.cards.specs.internal.Masks.{cards_of_mask}
use Rattle.cards.specs.internal.WeightMasks.{IsWeightMasks, weight_in_masks, weights_of_masks}
use Rattle.cards.proofs.DealMasks.{mask_more, mask_step}
use Rattle.cards.proofs.MaskCounts.{ones_of, sum_by_same}

-- ---- the mask of a list, card by card

pub with_card : (cards : List Bool) (i mask new : ℕ) → i < length cards → i < 64 → mask ≡ mask_l (take i cards) → get_or cards i false ≡ true
    → new ≡ bit_or mask (1 * 2 ^ i % 2 ^ 64) → new ≡ mask_l (take (i + 1) cards)
with_card cards i mask new inside small e held is =
    let bit : cond (get_or cards i false) (2 ^ i) 0 ≡ 2 ^ i = ap (λ b. cond b (2 ^ i) 0) held in
    let joined : bit_or mask (1 * 2 ^ i % 2 ^ 64) ≡ mask + 2 ^ i = ap (bit_or mask) (one_shl i 64 small) ∙ mask_more cards i mask inside e in
    omega (arith, is, joined, e, bit, mask_step cards i inside)

pub without_card : (cards : List Bool) (i mask new : ℕ) → i < length cards → mask ≡ mask_l (take i cards) → get_or cards i false ≡ false
    → new ≡ mask → new ≡ mask_l (take (i + 1) cards)
without_card cards i mask new inside e held is =
    let none : cond (get_or cards i false) (2 ^ i) 0 ≡ 0 = ap (λ b. cond b (2 ^ i) 0) held in
    omega (arith, is, e, none, mask_step cards i inside)

-- ---- the weights that four masks show

abbrev with_bit : List ℕ → ℕ → ℕ
with_bit weights k = mask_l (map (λ w. bit_at w k == 1) weights)

read_bit : (weights : List ℕ) (k i : ℕ) → i < length weights → bit_at (with_bit weights k) i ≡ bit_at (get_or weights i 0) k
read_bit weights k i inside =
    bit_mask_l (map (λ w. bit_at w k == 1) weights) i
    ∙ ap (λ b. cond b 1 0) (get_or-map (λ w. bit_at w k == 1) weights i 0 false inside)
    ∙ test_bit (bit_at (get_or weights i 0) k) (bit_at-lt (get_or weights i 0) k)

four_bits : (w : ℕ) → w < 16 → bit_at w 0 + 2 * bit_at w 1 + 4 * bit_at w 2 + 8 * bit_at w 3 ≡ w
four_bits w small = omega arith

pub shown : (weights : List ℕ) (a b c d : ℕ) → length weights ≡ 52 → ((i : ℕ) → i < length weights → get_or weights i 0 < 16)
    → a ≡ with_bit weights 0 → b ≡ with_bit weights 1 → c ≡ with_bit weights 2 → d ≡ with_bit weights 3
    → weights_of_masks a b c d ≡ weights
unfolding weights_of_masks pack
shown weights a b c d count light ea eb ec ed =
    let f : ℕ → ℕ = weight_in_masks a b c d in
    ext_get_or 0 (map f (range_with_len 0 52)) weights (length-map-range_with_len f 0 52 ∙ sym count)
    (λ i h.
    let below : i < 52 = rw (length-map-range_with_len f 0 52) at h in
    let inside : i < length weights = omega (arith, count) in
    get_or-map-range_with_len f 0 52 i i 0 below (omega arith)
    ∙ rw (
      ea,
      eb,
      ec,
      ed,
      read_bit weights 0 i inside,
      read_bit weights 1 i inside,
      read_bit weights 2 i inside,
      read_bit weights 3 i inside,
    ) (four_bits (get_or weights i 0) (light i inside)))

pub each_light : (weights : List ℕ) → All (λ w. w < 16) weights → (i : ℕ) → i < length weights → get_or weights i 0 < 16
each_light weights light i inside = All-get_or (λ w. w < 16) weights i 0 inside light

-- ---- what cards weigh

none_above : (a b c d i : ℕ) → IsWeightMasks a b c d → 52 ≤ i → weight_in_masks a b c d i ≡ 0
none_above a b c d i ok above =
    omega (
      arith,
      bit_at_above a 52 i ok.ones_below above,
      bit_at_above b 52 i ok.twos_below above,
      bit_at_above c 52 i ok.fours_below above,
      bit_at_above d 52 i ok.eights_below above,
    )

read_weight : (a b c d i : ℕ) → IsWeightMasks a b c d → get_or (weights_of_masks a b c d) i 0 ≡ weight_in_masks a b c d i
unfolding weights_of_masks pack
read_weight a b c d i ok =
    let f : ℕ → ℕ = weight_in_masks a b c d in
    elim (cases_lt i 52) [
      | inl below ↦ get_or-map-range_with_len f 0 52 i i 0 below (omega arith)
      | inr above ↦ get_or_past (map f (range_with_len 0 52)) i 0 (rw (length-map-range_with_len f 0 52) above) ∙ sym (none_above a b c d i ok above)
    ]

one_bit : (o : ℕ) (b : Bool) → o < 2 → cond ((o == 1) && b) 1 0 ≡ cond b o 0
one_bit zero true h = refl
one_bit zero false h = refl
one_bit (suc zero) true h = refl
one_bit (suc zero) false h = refl
one_bit (suc (suc o)) b h = absurd (omega arith)

all_bits : (b : Bool) (o t f e : ℕ) → cond b o 0 + 2 * cond b t 0 + 4 * cond b f 0 + 8 * cond b e 0 ≡ cond b (o + 2 * t + 4 * f + 8 * e) 0
all_bits true o t f e = refl
all_bits false o t f e = refl

one_weight : (b : Bool) (o t f e : ℕ) → o < 2 → t < 2 → f < 2 → e < 2
    → cond ((o == 1) && b) 1 0 + 2 * cond ((t == 1) && b) 1 0 + 4 * cond ((f == 1) && b) 1 0 + 8 * cond ((e == 1) && b) 1 0
    ≡ cond b (o + 2 * t + 4 * f + 8 * e) 0
one_weight b o t f e ho ht hf he = rw (one_bit o b ho, one_bit t b ht, one_bit f b hf, one_bit e b he) (all_bits b o t f e)

counts : (p q r s : ℕ → Bool) (xs : List ℕ) → count_by p xs + 2 * count_by q xs + 4 * count_by r xs + 8 * count_by s xs
    ≡ sum_by (λ c. cond (p c) 1 0 + 2 * cond (q c) 1 0 + 4 * cond (r c) 1 0 + 8 * cond (s c) 1 0) xs
counts p q r s [] = refl
counts p q r s (x ∷ xs) =
    omega (
      arith,
      counts p q r s xs,
      sum_by-cons (λ c. cond (p c) 1 0) x xs,
      sum_by-cons (λ c. cond (q c) 1 0) x xs,
      sum_by-cons (λ c. cond (r c) 1 0) x xs,
      sum_by-cons (λ c. cond (s c) 1 0) x xs,
      sum_by-cons (λ c. cond (p c) 1 0 + 2 * cond (q c) 1 0 + 4 * cond (r c) 1 0 + 8 * cond (s c) 1 0) x xs,
    )

abbrev under : ℕ → ℕ → ℕ
under mask m = count_ones (bit_and mask m)

-- how many of the cards a mask has
cards_under : (mask m : ℕ) → mask < 2 ^ 52 → m < 2 ^ 52 → under mask m ≡ count_by (λ c. (bit_at m c == 1) && holds_card (cards_of_mask mask) c) pack
unfolding cards_of_mask
cards_under mask m h below = ones_of mask m (λ c. bit_at m c == 1) h (sym (mask_of_cards m below))

pub weighed_by_masks : (mask a b c d : ℕ) → mask < 2 ^ 52 → IsWeightMasks a b c d
    → under mask a + 2 * under mask b + 4 * under mask c + 8 * under mask d ≡ weighed (weights_of_masks a b c d) (cards_of_mask mask)
weighed_by_masks mask a b c d h ok =
    let hand : List Bool = cards_of_mask mask in
    rw (
      cards_under mask a h ok.ones_below,
      cards_under mask b h ok.twos_below,
      cards_under mask c h ok.fours_below,
      cards_under mask d h ok.eights_below,
    )
    (counts (λ i. (bit_at a i == 1) && holds_card hand i) (λ i. (bit_at b i == 1) && holds_card hand i)
    (λ i. (bit_at c i == 1) && holds_card hand i) (λ i. (bit_at d i == 1) && holds_card hand i) pack
    ∙ sum_by_same
    (λ i. cond ((bit_at a i == 1) && holds_card hand i) 1 0 + 2 * cond ((bit_at b i == 1) && holds_card hand i) 1 0
    + 4 * cond ((bit_at c i == 1) && holds_card hand i) 1 0 + 8 * cond ((bit_at d i == 1) && holds_card hand i) 1
    0)
    (λ i. cond (holds_card hand i) (get_or (weights_of_masks a b c d) i 0) 0)
    (λ i. one_weight (holds_card hand i) (bit_at a i) (bit_at b i) (bit_at c i) (bit_at d i) (bit_at-lt a i)
    (bit_at-lt b i) (bit_at-lt c i) (bit_at-lt d i) ∙ ap (λ w. cond (holds_card hand i) w 0)
    (sym (read_weight a b c d i ok))) pack)

-- ---- bounds

under-le : (mask m : ℕ) → mask < 2 ^ 52 → m < 2 ^ 52 → under mask m ≤ 52
unfolding pack
under-le mask m h below =
    omega (
      arith,
      cards_under mask m h below,
      count_by-le-length (λ c. (bit_at m c == 1) && holds_card (cards_of_mask mask) c) pack,
      length-range_with_len 0 52,
    )

pub weighed-le : (mask a b c d : ℕ) → mask < 2 ^ 52 → IsWeightMasks a b c d
    → under mask a + 2 * under mask b + 4 * under mask c + 8 * under mask d ≤ 780
weighed-le mask a b c d h ok =
    omega (
      arith,
      under-le mask a h ok.ones_below,
      under-le mask b h ok.twos_below,
      under-le mask c h ok.fours_below,
      under-le mask d h ok.eights_below,
    )
