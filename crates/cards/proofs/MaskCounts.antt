-- Counts of bits under fixed masks are counts over the cards.
use Rattle.std.proofs.Common.{◌≡◌, ℕ, zero, suc, ◌+◌, ◌/◌, ◌%◌, ◌^◌, ◌<◌, ◌≤◌, ◌≢◌, ◌==◌, ◌&&◌, min, Bool, true}
use Rattle.std.proofs.Common.{false, cond, List, [], ◌∷◌, length, get_or, set, map, below_more, refl, sym, ◌∙◌, ap}
use Rattle.std.proofs.Common.{arith, inl, inr}
use Rattle.std.specs.Int.{bit_at}
use Rattle.std.specs.Int.RustNames.{bit_and, count_ones}
use Rattle.std.specs.List.{count_by, sum_by, range_with_len}
use Rattle.std.proofs.lemmas.Bool.{cases_lt}
use Rattle.std.proofs.lemmas.List.{get_or_past, get_or-set_same, get_or-set_other}
use Rattle.std.proofs.lemmas.List.Sums.{sum_by-cons}
use Rattle.std.proofs.lemmas.List.FromFn.{get_or-map-range_with_len, length-map-range_with_len}
use Rattle.std.proofs.lemmas.Nat.Bits.{bit_at_above, bit_at-lt, bit_at_and, shr_and_one}
use Rattle.std.proofs.lemmas.Nat.{and_le_l}
use Rattle.std.proofs.lemmas.Simd.{ones-mask_l}
use lib.Lanes.{mask_l}
use Rattle.cards.specs.declared.suit.Suit.{Suit}
use Rattle.cards.specs.declared.suit.Suit.TheVariants.{Spades, Hearts, Diamonds, Clubs}
use Rattle.cards.specs.Pack.{is_in_suit}
use Rattle.cards.specs.Shuffle.{pack}
use Rattle.cards.specs.declared.honours.Honours.{Honours}
use Rattle.cards.specs.Hands.{holds_card, weight_of, weight_in, length_of}
use Rattle.cards.specs.Counts.{has_honour, honours_of, honours_in}
use Rattle.cards.specs.internal.Masks.{cards_of_mask, mask_of_suit, mask_of_honours}
use Rattle.cards.specs.internal.MaskBits.{bit_at_pack, mask-pack-lt, same_masks, mask_of_cards}

-- what a mask shows of a card
pub card_at_mask : (mask c : ℕ) → mask < 2 ^ 52 → holds_card (cards_of_mask mask) c ≡ (bit_at mask c == 1)
unfolding cards_of_mask pack
card_at_mask mask c h =
    elim (cases_lt c 52) [
      | inl below ↦ get_or-map-range_with_len (λ k. bit_at mask k == 1) 0 52 c c false below (omega arith)
      | inr above ↦ get_or_past (map (λ k. bit_at mask k == 1) (range_with_len 0 52)) c false
          (rw (length-map-range_with_len (λ k. bit_at mask k == 1) 0 52) above)
          ∙ rw (bit_at_above mask 52 c h above) refl
    ]

min_bits : (a b : Bool) → min (cond a 1 0) (cond b 1 0) ≡ cond (b && a) 1 0
min_bits true true = refl
min_bits true false = refl
min_bits false true = refl
min_bits false false = refl

bit_and-pack-lt : (p q : ℕ → Bool) → bit_and (mask_l (map p pack)) (mask_l (map q pack)) < 2 ^ 52
bit_and-pack-lt p q = omega (arith, and_le_l (mask_l (map p pack)) (mask_l (map q pack)), mask-pack-lt p)

-- the bits that two lists over the pack share
pub and_pack : (p q : ℕ → Bool) → bit_and (mask_l (map p pack)) (mask_l (map q pack)) ≡ mask_l (map (λ c. q c && p c) pack)
and_pack p q =
    same_masks _ _ (bit_and-pack-lt p q) (mask-pack-lt (λ c. q c && p c))
    (λ i h. bit_at_and (mask_l (map p pack)) (mask_l (map q pack)) i
    ∙ ap (λ t. min t (bit_at (mask_l (map q pack)) i)) (bit_at_pack p i h)
    ∙ ap (min (cond (p i) 1 0)) (bit_at_pack q i h) ∙ min_bits (p i) (q i)
    ∙ sym (bit_at_pack (λ c. q c && p c) i h))

-- the number of a hand's cards under a mask
pub ones_under : (mask : ℕ) (q : ℕ → Bool) → mask < 2 ^ 52
    → count_ones (bit_and mask (mask_l (map q pack))) ≡ count_by (λ c. q c && (bit_at mask c == 1)) pack
unfolding cards_of_mask
ones_under mask q h =
    ap (λ m. count_ones (bit_and m (mask_l (map q pack)))) (sym (mask_of_cards mask h))
    ∙ ap count_ones (and_pack (λ c. bit_at mask c == 1) q)
    ∙ ones-mask_l (λ c. q c && (bit_at mask c == 1)) pack

-- ---- sums
pub sum_by_same : (f g : ℕ → ℕ) → ((x : ℕ) → f x ≡ g x) → (xs : List ℕ) → sum_by f xs ≡ sum_by g xs
sum_by_same f g e [] = refl
sum_by_same f g e (x ∷ xs) = omega (arith, sum_by-cons f x xs, sum_by-cons g x xs, e x, sum_by_same f g e xs)

-- no term is larger
pub sum_by-le : (f g : ℕ → ℕ) → ((x : ℕ) → f x ≤ g x) → (xs : List ℕ) → sum_by f xs ≤ sum_by g xs
sum_by-le f g e [] = omega arith
sum_by-le f g e (x ∷ xs) = omega (arith, sum_by-cons f x xs, sum_by-cons g x xs, e x, sum_by-le f g e xs)

pub cond-le : (n : ℕ) (b : Bool) → cond b n 0 ≤ n
cond-le n true = omega arith
cond-le n false = omega arith

pub both-le : (n : ℕ) (a b : Bool) → cond (a && b) n 0 ≤ cond a n 0
both-le n true b = cond-le n b
both-le n false b = omega arith

suit_cards : (suit : Suit) → sum_by (λ c. cond (is_in_suit suit c) 1 0) pack ≡ 13
unfolding pack
suit_cards Spades = refl
suit_cards x = refl

pub length_of-le : (hand : List Bool) (suit : Suit) → length_of hand suit ≤ 13
length_of-le hand suit = omega (
  arith,
  suit_cards suit,
  sum_by-le (λ c. cond (is_in_suit suit c && holds_card hand c) 1 0) (λ c. cond (is_in_suit suit c) 1 0)
      (λ c. both-le 1 (is_in_suit suit c) (holds_card hand c)) pack,
)

-- the number of a hand's cards under a mask, as the hand tells them
pub ones_of : (mask m : ℕ) (q : ℕ → Bool) → mask < 2 ^ 52 → m ≡ mask_l (map q pack)
    → count_ones (bit_and mask m) ≡ count_by (λ c. q c && holds_card (cards_of_mask mask) c) pack
ones_of mask m q h e =
    ap (λ t. count_ones (bit_and mask t)) e ∙ ones_under mask q h
    ∙ sum_by_same (λ c. cond (q c && (bit_at mask c == 1)) 1 0)
    (λ c. cond (q c && holds_card (cards_of_mask mask) c) 1 0)
    (λ c. ap (λ b. cond (q c && b) 1 0) (sym (card_at_mask mask c h))) pack

pub length_under_mask : (suit : Suit) (mask m : ℕ) → mask < 2 ^ 52 → m ≡ mask_l (map (is_in_suit suit) pack)
    → count_ones (bit_and mask m) ≡ length_of (cards_of_mask mask) suit
length_under_mask suit mask m h e = ones_of mask m (is_in_suit suit) h e

min_test : (x : ℕ) (b : Bool) → x < 2 → (min x (cond b 1 0) == 1) ≡ (b && (x == 1))
min_test zero true h = refl
min_test zero false h = refl
min_test (suc zero) true h = refl
min_test (suc zero) false h = refl
min_test (suc (suc x)) b h = absurd (omega arith)

and_false : (b : Bool) → false ≡ (b && false)
and_false true = refl
and_false false = refl

and_bit : (q : ℕ → Bool) (mask c : ℕ) → mask < 2 ^ 52 → (bit_at (bit_and mask (mask_l (map q pack))) c == 1) ≡ (q c && (bit_at mask c == 1))
and_bit q mask c h =
    elim (cases_lt c 52) [
      | inl below ↦ ap (λ t. t == 1) (bit_at_and mask (mask_l (map q pack)) c
          ∙ ap (min (bit_at mask c)) (bit_at_pack q c below)) ∙ min_test (bit_at mask c) (q c) (bit_at-lt mask c)
      | inr above ↦
          let none : bit_at mask c ≡ 0 = bit_at_above mask 52 c h above in
          let low : bit_and mask (mask_l (map q pack)) < 2 ^ 52 = omega (arith, and_le_l mask (mask_l (map q pack))) in
          ap (λ t. t == 1) (bit_at_above (bit_and mask (mask_l (map q pack))) 52 c low above) ∙ and_false (q c) ∙ ap (λ t. q c && (t == 1)) (sym none)
    ]

pub and-lt : (mask m : ℕ) → mask < 2 ^ 52 → bit_and mask m < 2 ^ 52
and-lt mask m h = omega (arith, and_le_l mask m)

-- the cards under a suit's mask are the suit's cards
held_in : (q : ℕ → Bool) (mask c : ℕ) → mask < 2 ^ 52 → holds_card
    (cards_of_mask (bit_and mask (mask_l (map q pack)))) c ≡ (q c && holds_card (cards_of_mask mask) c)
held_in q mask c h =
    card_at_mask (bit_and mask (mask_l (map q pack))) c (and-lt mask (mask_l (map q pack)) h) ∙ and_bit q mask c h
    ∙ ap (λ b. q c && b) (sym (card_at_mask mask c h))

pub weight_in_mask : (w : List ℕ) (suit : Suit) (mask m : ℕ) → mask < 2 ^ 52 → m ≡ mask_l (map (is_in_suit suit) pack)
    → weight_of w (cards_of_mask (bit_and mask m)) ≡ weight_in w (cards_of_mask mask) suit
weight_in_mask w suit mask m h e =
    let q : ℕ → Bool = is_in_suit suit in
    ap (λ t. weight_of w (cards_of_mask (bit_and mask t))) e
    ∙ sum_by_same (λ c. cond (holds_card (cards_of_mask (bit_and mask (mask_l (map q pack)))) c) (get_or w (c % 13) 0)
    0) (λ c. cond (q c && holds_card (cards_of_mask mask) c) (get_or w (c % 13) 0) 0)
    (λ c. ap (λ b. cond b (get_or w (c % 13) 0) 0) (held_in q mask c h)) pack

pub honours_under_mask : (honours : Honours) (mask m : ℕ) → mask < 2 ^ 52 → m ≡ mask_of_honours honours
    → count_ones (bit_and mask m) ≡ honours_of honours (cards_of_mask mask)
honours_under_mask honours mask m h e = ones_of mask m (λ c. has_honour honours (c % 13)) h e

pub honours_in_mask : (honours : Honours) (suit : Suit) (mask m : ℕ) → mask < 2 ^ 52
    → m ≡ mask_l (map (is_in_suit suit) pack) → honours_of honours (cards_of_mask (bit_and mask m)) ≡ honours_in
    honours (cards_of_mask mask) suit
honours_in_mask honours suit mask m h e =
    let q : ℕ → Bool = is_in_suit suit in
    ap (λ t. honours_of honours (cards_of_mask (bit_and mask t))) e
    ∙ sum_by_same (λ c. cond (has_honour honours (c % 13) && holds_card
    (cards_of_mask (bit_and mask (mask_l (map q pack)))) c) 1 0)
    (λ c. cond (has_honour honours (c % 13) && (q c && holds_card (cards_of_mask mask) c)) 1 0)
    (λ c. ap (λ b. cond (has_honour honours (c % 13) && b) 1 0) (held_in q mask c h)) pack

-- the masks of the suits
pub suit_masks : (suit : Suit) → mask_of_suit suit ≡ mask_l (map (is_in_suit suit) pack)
unfolding pack
suit_masks Spades = refl
suit_masks x = refl

-- a test of one bit of a hand's mask is whether the hand has the card
pub held_bit : (mask k c : ℕ) (hand : List Bool) → mask < 2 ^ 52 → cards_of_mask mask ≡ hand → k ≡ c
    → (bit_and (mask / 2 ^ k) 1 == 1) ≡ holds_card hand c
held_bit mask k c hand h view same =
    ap (λ t. t == 1) (shr_and_one mask k) ∙ sym (card_at_mask mask k h) ∙ ap (λ d. holds_card d k) view ∙ ap (holds_card hand) same

-- one more truth value of a list that is filled from the front
pub read_more : (f : ℕ → Bool) (xs : List Bool) (i : ℕ) (x : Bool) → i < length xs
    → ((k : ℕ) → k < i → get_or xs k false ≡ f k) → x ≡ f i → (k : ℕ) → k < i + 1 → get_or (set xs i x) k false ≡ f k
read_more f xs i x inside done here =
    below_more _ _
    (λ (k : ℕ) (h : k < i). let ne : k ≢ i = omega arith in rw (get_or-set_other xs i k x false ne) (done k h))
    (rw (get_or-set_same xs i x false inside) here)
