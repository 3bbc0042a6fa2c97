-- A deal and a flag in three words, and a seed and fixed cards.
use Rattle.std.proofs.Common.{◌≡◌, ℕ, ◌+◌, ◌/◌, ◌%◌, ◌^◌, ◌<◌, ◌≤◌, ◌==◌, max, Bool, true, false, cond, List, length}
use Rattle.std.proofs.Common.{map, get_or, refl, sym, ◌∙◌, ap, arith, inl, inr, subst}
use Rattle.std.specs.Prelude.{Option, Some, None, if◌then◌else◌}
use Rattle.std.specs.Int.{bit_at}
use Rattle.std.specs.Int.RustNames.{bit_or}
use Rattle.std.specs.List.{range_with_len}
use Rattle.std.proofs.lemmas.Bool.{cases_lt, le-ltb, lt-ltb}
use Rattle.std.proofs.lemmas.Bool.Decides.{nat_tests}
use Rattle.std.proofs.lemmas.Nat.{or_lt}
use Rattle.std.proofs.lemmas.Nat.Bits.{bit_at_or}
use Rattle.std.proofs.lemmas.List.{ext_get_or, get_or-map, length-map}
use Rattle.std.proofs.lemmas.List.FromFn.{get_or-map-range_with_len, length-map-range_with_len}
use Rattle.std.proofs.lemmas.Simd.{bit_mask_l, mask_l-lt}
use mir.Val.{bool_byte}
use Rattle.cards.specs.declared.seat.Seat.{Seat}
use Rattle.cards.specs.declared.seat.Seat.TheVariants.{North, East, South, West}
use Rattle.cards.specs.Deals.{IsPartition}
use Rattle.cards.specs.Fixed.{IsFixed, candidate_around, is_fixed_at}
use Rattle.cards.specs.Packed.{HasNumber, PackedView, deal_in, flag_in, undealt, whole}
use Rattle.cards.specs.Shuffle.{pack}
use Rattle.cards.specs.internal.Around.{fixed_mask}
use Rattle.cards.specs.internal.Masks.{IsFull, seat_mask, seats_of_masks}
use Rattle.cards.specs.internal.PackedMasks.{IsPacked, above_in, cards_in, first_of, fixed_told, joined, rest_of}
use Rattle.cards.specs.internal.PackedMasks.{second_of, seed_told, shown, third_of, told, told_at}
use Rattle.cards.proofs.DealMasks.{masks_view, seat_mask-lt}
use Rattle.cards.proofs.FullMasks.{full_masks, masks_of_partition, sum_of_full}

-- ---- a word
pub cards_back : (cards above : ℕ) → cards < 2 ^ 52 → cards_in (joined cards above) ≡ cards
cards_back cards above below = omega arith

pub above_back : (cards above : ℕ) → cards < 2 ^ 52 → above_in (joined cards above) ≡ above
above_back cards above below = omega arith

-- ---- what three words show, by the first of them
if_true : {A : Type 0} (b : Bool) (x y : A) → b ≡ true → (if b then x else y) ≡ x
if_true b x y e = rw e refl

if_false : {A : Type 0} (b : Bool) (x y : A) → b ≡ false → (if b then x else y) ≡ y
if_false b x y e = rw e refl

pub shown_whole : (a b c : ℕ) → above_in a < 2 → shown a b c ≡ whole (seats_of_masks (cards_in a) b c) (above_in a == 1)
unfolding shown
shown_whole a b c h = if_true _ _ _ (lt-ltb (above_in a) 2 h)

pub shown_undealt : (a b c : ℕ) → 2 ≤ above_in a
    → shown a b c ≡ undealt (record {
      seed = seed_told (above_in a) (above_in b) (above_in c);
      fixed =
          fixed_told (cards_in a) (cards_in b) (cards_in c);
    })
unfolding shown
shown_undealt a b c h = if_false _ _ _ (le-ltb (above_in a) 2 h)

more : (a : ℕ) → 2 ≤ a → false ≡ (a == 1)
more a h = grind (arith, nat_tests)

pub flag_shown : (a b c : ℕ) → flag_in (shown a b c) ≡ (above_in a == 1)
flag_shown a b c = elim (cases_lt (above_in a) 2) [
  | inl below ↦ ap flag_in (shown_whole a b c below)
  | inr above ↦ ap flag_in (shown_undealt a b c above) ∙ more (above_in a) above
]

-- ---- a deal and a flag
flag_less : (flag : Bool) → cond flag 1 0 < 2
flag_less true = omega arith
flag_less false = omega arith

flag_test : (flag : Bool) → (cond flag 1 0 == 1) ≡ flag
flag_test true = refl
flag_test false = refl

-- what three hands leave is West's
west_is_rest : (n e s w : ℕ) → IsFull n e s w → w ≡ rest_of n e s
west_is_rest n e s w full = omega (arith, sum_of_full n e s w full)

-- the words of a deal and a flag
words_of_deal : (deal : List Seat) (flag : Bool) (n a : ℕ) → IsPartition deal → n ≡ seat_mask deal North → a ≡ joined n (cond flag 1 0)
    → (cards_in a ≡ seat_mask deal North) × (above_in a ≡ cond flag 1 0)
words_of_deal deal flag n a ok en ea =
    let below : n < 2 ^ 52 = rw en (seat_mask-lt deal North ok) in
    (ap cards_in ea ∙ cards_back n (cond flag 1 0) below ∙ en, ap above_in ea ∙ above_back n (cond flag 1 0) below)

pub shown_deal : (deal : List Seat) (flag : Bool) (n a b c : ℕ) → IsPartition deal
    → n ≡ seat_mask deal North → a ≡ joined n (cond flag 1 0) → b ≡ seat_mask deal East → c ≡ seat_mask deal South
    → shown a b c ≡ whole deal flag
shown_deal deal flag n a b c ok en ea eb ec =
    let (cards, above) = words_of_deal deal flag n a ok en ea in
    let low : above_in a < 2 = rw above (flag_less flag) in
    shown_whole a b c low
    ∙ ap (λ d. whole d (above_in a == 1)) (masks_view deal (cards_in a) b c ok cards eb ec)
    ∙ ap (λ n. whole deal (n == 1)) above ∙ ap (whole deal) (flag_test flag)

pub deal_packed : (deal : List Seat) (flag : Bool) (n a b c : ℕ) → IsPartition deal
    → n ≡ seat_mask deal North → a ≡ joined n (cond flag 1 0) → b ≡ seat_mask deal East → c ≡ seat_mask deal South
    → IsPacked a b c
unfolding first_of second_of third_of
deal_packed deal flag n a b c ok en ea eb ec =
    let view = shown_deal deal flag n a b c ok en ea eb ec in
    let (cards, above) = words_of_deal deal flag n a ok en ea in
    let rest : rest_of (cards_in a) b c ≡ seat_mask deal West =
    rw (cards, eb, ec) (sym (west_is_rest (seat_mask deal North) (seat_mask deal East) (seat_mask deal South)
    (seat_mask deal West) (full_masks deal ok))) in
    let low : above_in a < 2 = rw above (flag_less flag) in
    record {
      first_is = ap first_of view ∙ ap (λ m. joined m (cond flag 1 0)) (sym en) ∙ sym ea;
      second_is = ap second_of view ∙ sym eb;
      third_is = ap third_of view ∙ sym ec;
      masks = λ h. masks_of_partition deal (cards_in a) b c (rest_of (cards_in a) b c) ok cards eb ec rest;
      seed = λ h. absurd (omega arith);
      fixed = λ h. absurd (omega arith);
    }

-- ---- a seed and fixed cards
pub fixed_mask-lt : (fixed : List (Option Seat)) (seat : Seat) → IsFixed fixed → fixed_mask fixed seat < 2 ^ 52
fixed_mask-lt fixed seat ok =
    let long : length (map (is_fixed_at seat) fixed) ≡ 52 = simp length-map ok.count in
    rw long at (mask_l-lt (map (is_fixed_at seat) fixed))

pub two_masks-lt : (fixed : List (Option Seat)) (one other : Seat) → IsFixed fixed → bit_or (fixed_mask fixed one) (fixed_mask fixed other) < 2 ^ 52
two_masks-lt fixed one other ok =
    or_lt 52 (fixed_mask fixed one) (fixed_mask fixed other) (fixed_mask-lt fixed one ok) (fixed_mask-lt fixed other ok)

bit_of_fixed : (fixed : List (Option Seat)) (seat : Seat) (i : ℕ) → i < length fixed
    → bit_at (fixed_mask fixed seat) i ≡ cond (is_fixed_at seat (get_or fixed i None)) 1 0
bit_of_fixed fixed seat i h =
    bit_mask_l (map (is_fixed_at seat) fixed) i
    ∙ ap (λ b. cond b 1 0) (get_or-map (is_fixed_at seat) fixed i None false h)

bit_of_two : (fixed : List (Option Seat)) (one other : Seat) (i : ℕ) → i < length fixed
    → bit_at (bit_or (fixed_mask fixed one) (fixed_mask fixed other)) i ≡ max
    (cond (is_fixed_at one (get_or fixed i None)) 1 0) (cond (is_fixed_at other (get_or fixed i None)) 1 0)
bit_of_two fixed one other i h =
    bit_at_or (fixed_mask fixed one) (fixed_mask fixed other) i
    ∙ ap (λ b. max b (bit_at (fixed_mask fixed other) i)) (bit_of_fixed fixed one i h)
    ∙ ap (max (cond (is_fixed_at one (get_or fixed i None)) 1 0)) (bit_of_fixed fixed other i h)

abbrev told_by : Option Seat → Option Seat
told_by held =
    told (max (cond (is_fixed_at North held) 1 0) (cond (is_fixed_at West held) 1 0) == 1)
    (max (cond (is_fixed_at East held) 1 0) (cond (is_fixed_at West held) 1 0) == 1)
    (cond (is_fixed_at South held) 1 0 == 1)

told_back : (held : Option Seat) → told_by held ≡ held
told_back None = refl
told_back (Some North) = refl
told_back (Some East) = refl
told_back (Some South) = refl
told_back (Some West) = refl

three_told : (a b c a' b' c' : ℕ) → a ≡ a' → b ≡ b' → c ≡ c' → told (a == 1) (b == 1) (c == 1) ≡ told (a' == 1) (b' == 1) (c' == 1)
three_told a b c a' b' c' ea eb ec = rw (ea, eb, ec) refl

-- the masks of fixed cards tell them
fixed_back : (fixed : List (Option Seat)) → IsFixed fixed
    → fixed_told (bit_or (fixed_mask fixed North) (fixed_mask fixed West))
    (bit_or (fixed_mask fixed East) (fixed_mask fixed West)) (fixed_mask fixed South) ≡ fixed
unfolding fixed_told pack
fixed_back fixed ok =
    let a : ℕ = bit_or (fixed_mask fixed North) (fixed_mask fixed West) in
    let b : ℕ = bit_or (fixed_mask fixed East) (fixed_mask fixed West) in
    let c : ℕ = fixed_mask fixed South in
    ext_get_or None (map (told_at a b c) (range_with_len 0 52)) fixed (length-map-range_with_len (told_at a b c) 0 52 ∙ sym ok.count)
    (λ i h.
    let below : i < 52 = rw (length-map-range_with_len (told_at a b c) 0 52) at h in
    let inside : i < length fixed = rw ok.count below in
    get_or-map-range_with_len (told_at a b c) 0 52 i i None below (omega arith)
    ∙ three_told _ _ _ _ _ _ (bit_of_two fixed North West i inside) (bit_of_two fixed East West i inside) (bit_of_fixed fixed South i inside)
    ∙ told_back (get_or fixed i None))

-- 52 seats, each told by its bits
pub told_all : (a b c : ℕ) (seats : List (Option Seat)) → length seats ≡ 52
    → ((i : ℕ) → i < 52 → get_or seats i None ≡ told_at a b c i) → seats ≡ fixed_told a b c
unfolding fixed_told pack
told_all a b c seats long each =
    ext_get_or None seats (map (told_at a b c) (range_with_len 0 52)) (long ∙ sym (length-map-range_with_len (told_at a b c) 0 52))
    (λ i h.
    let below : i < 52 = rw long at h in
    each i below ∙ sym (get_or-map-range_with_len (told_at a b c) 0 52 i i None below (omega arith)))

-- the parts of a seed give it
seed_back : (seed : ℕ) → seed_told (2 + seed / 2 ^ 24) (seed % 2 ^ 12) (seed / 2 ^ 12 % 2 ^ 12) ≡ seed
seed_back seed = omega arith

three_fixed : (a b c a' b' c' : ℕ) → a ≡ a' → b ≡ b' → c ≡ c' → fixed_told a b c ≡ fixed_told a' b' c'
three_fixed a b c a' b' c' ea eb ec = rw (ea, eb, ec) refl

three_seeds : (a b c a' b' c' : ℕ) → a ≡ a' → b ≡ b' → c ≡ c' → seed_told a b c ≡ seed_told a' b' c'
three_seeds a b c a' b' c' ea eb ec = rw (ea, eb, ec) refl

same_source : (seed seed' : ℕ) (fixed fixed' : List (Option Seat)) → seed ≡ seed' → fixed ≡ fixed'
    → undealt (record { seed = seed; fixed = fixed }) ≡ undealt (record { seed = seed'; fixed = fixed' })
same_source seed seed' fixed fixed' es ef = cc (es, ef)

-- what the words of a seed and fixed cards tell
source_told : (seed : ℕ) (fixed : List (Option Seat)) (a b c : ℕ) → IsFixed fixed
    → a ≡ joined (bit_or (fixed_mask fixed North) (fixed_mask fixed West)) (2 + seed / 2 ^ 24)
    → b ≡ joined (bit_or (fixed_mask fixed East) (fixed_mask fixed West)) (seed % 2 ^ 12)
    → c ≡ joined (fixed_mask fixed South) (seed / 2 ^ 12 % 2 ^ 12)
    → (2 ≤ above_in a) × (seed_told (above_in a) (above_in b) (above_in c) ≡ seed) × (fixed_told (cards_in a) (cards_in b) (cards_in c) ≡ fixed)
source_told seed fixed a b c ok ea eb ec =
    let la = two_masks-lt fixed North West ok in
    let lb = two_masks-lt fixed East West ok in
    let lc = fixed_mask-lt fixed South ok in
    let high : above_in a ≡ 2 + seed / 2 ^ 24 = ap above_in ea ∙ above_back _ _ la in (
      rw high (omega arith),
      three_seeds _ _ _ _ _ _ high (ap above_in eb ∙ above_back _ _ lb) (ap above_in ec ∙ above_back _ _ lc) ∙ seed_back seed,
      three_fixed _ _ _ _ _ _ (ap cards_in ea ∙ cards_back _ _ la) (ap cards_in eb ∙ cards_back _ _ lb)
          (ap cards_in ec ∙ cards_back _ _ lc) ∙ fixed_back fixed ok,
    )

pub shown_source : (seed : ℕ) (fixed : List (Option Seat)) (a b c : ℕ) → IsFixed fixed
    → a ≡ joined (bit_or (fixed_mask fixed North) (fixed_mask fixed West)) (2 + seed / 2 ^ 24)
    → b ≡ joined (bit_or (fixed_mask fixed East) (fixed_mask fixed West)) (seed % 2 ^ 12)
    → c ≡ joined (fixed_mask fixed South) (seed / 2 ^ 12 % 2 ^ 12)
    → shown a b c ≡ undealt (record { seed = seed; fixed = fixed })
shown_source seed fixed a b c ok ea eb ec =
    let (high, seed_is, fixed_is) = source_told seed fixed a b c ok ea eb ec in
    shown_undealt a b c high ∙ same_source _ _ _ _ seed_is fixed_is

pub source_packed : (seed : ℕ) (fixed : List (Option Seat)) (a b c : ℕ) → IsFixed fixed → seed < 2 ^ 32
    → a ≡ joined (bit_or (fixed_mask fixed North) (fixed_mask fixed West)) (2 + seed / 2 ^ 24)
    → b ≡ joined (bit_or (fixed_mask fixed East) (fixed_mask fixed West)) (seed % 2 ^ 12)
    → c ≡ joined (fixed_mask fixed South) (seed / 2 ^ 12 % 2 ^ 12)
    → IsPacked a b c
unfolding first_of second_of third_of
source_packed seed fixed a b c ok fits ea eb ec =
    let view = shown_source seed fixed a b c ok ea eb ec in
    let (high, seed_is, fixed_is) = source_told seed fixed a b c ok ea eb ec in
    record {
      first_is = ap first_of view ∙ sym ea;
      second_is = ap second_of view ∙ sym eb;
      third_is = ap third_of view ∙ sym ec;
      masks = λ h. absurd (omega arith);
      seed = λ h. rw seed_is fits;
      fixed = λ h. rw fixed_is ok;
    }

-- the words that are made of the masks of fixed cards, and of a seed
pub words_of_source : (fixed : List (Option Seat)) (seed x n e s w a b c : ℕ) → x ≡ seed
    → n ≡ fixed_mask fixed North → e ≡ fixed_mask fixed East → s ≡ fixed_mask fixed South → w ≡ fixed_mask fixed West
    → a ≡ joined (bit_or n w) (2 + x / 2 ^ 24) → b ≡ joined (bit_or e w) (x % 2 ^ 12) → c ≡ joined s (x / 2 ^ 12 % 2 ^ 12)
    → (a ≡ joined (bit_or (fixed_mask fixed North) (fixed_mask fixed West)) (2 + seed / 2 ^ 24))
    × (b ≡ joined (bit_or (fixed_mask fixed East) (fixed_mask fixed West)) (seed % 2 ^ 12))
    × (c ≡ joined (fixed_mask fixed South) (seed / 2 ^ 12 % 2 ^ 12))
words_of_source fixed seed x n e s w a b c ex en ee es ew ea eb ec =
    (rw (← ex, ← en, ← ew) ea, rw (← ex, ← ee, ← ew) eb, rw (← ex, ← es) ec)

-- a flag as a number
pub flag_number : (flag : Bool) (number : ℕ) → number ≡ bool_byte flag → number ≡ cond flag 1 0
flag_number true number is = is
flag_number false number is = is

-- what the deal of the candidate of a number is
pub deal_of_whole : (a b c number : ℕ) (view : PackedView) → above_in a < 2 → shown a b c ≡ view
    → seats_of_masks (cards_in a) b c ≡ deal_in view number
deal_of_whole a b c number view h is = ap (λ v. deal_in v number) (sym (shown_whole a b c h) ∙ is)

pub deal_of_undealt : (a b c number seed : ℕ) (fixed : List (Option Seat)) (view : PackedView) → 2 ≤ above_in a → shown a b c ≡ view
    → seed ≡ seed_told (above_in a) (above_in b) (above_in c) → fixed ≡ fixed_told (cards_in a) (cards_in b) (cards_in c)
    → candidate_around fixed seed number ≡ deal_in view number
deal_of_undealt a b c number seed fixed view h is seed_is fixed_is =
    ap (λ s. candidate_around fixed s number) seed_is
    ∙ ap (λ f. candidate_around f (seed_told (above_in a) (above_in b) (above_in c)) number) fixed_is
    ∙ ap (λ v. deal_in v number) (sym (shown_undealt a b c h) ∙ is)

pub number_of_undealt : (a b c number : ℕ) (view : PackedView) → 2 ≤ above_in a → shown a b c ≡ view → HasNumber view number → number < 2 ^ 40
number_of_undealt a b c number view h is has = subst (λ v. HasNumber v number) (sym is ∙ shown_undealt a b c h) has
