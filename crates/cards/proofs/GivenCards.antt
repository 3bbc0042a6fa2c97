-- Cards that are given one by one, as masks.
use Rattle.std.proofs.Common.{◌≡◌, ◌≢◌, ◌∙◌, ℕ, ◌+◌, ◌*◌, ◌-◌, ◌%◌, ◌^◌, ◌<◌, ◌==◌, Bool, true, false, cond, List, []}
use Rattle.std.proofs.Common.{◌∷◌, length, map, get_or, set, ap, refl, sym, arith, subst}
use Rattle.std.specs.Prelude.{IsSome, Option, None, Some, if◌then◌else◌}
use Rattle.std.specs.Int.{bit_at}
use Rattle.std.specs.Int.RustNames.{bit_or, count_ones}
use Rattle.std.specs.Int.{w64}
use Rattle.std.proofs.lemmas.Bool.{and_parts, eqb-false, eqb-true, eq-eqb}
use Rattle.std.proofs.Math.Pow.{pow-lt}
use Rattle.std.proofs.lemmas.Nat.{one_shl, or_lt}
use Rattle.std.proofs.lemmas.Nat.Bits.{bit_at-lt, bit_at_ones, bit_at_set_other, bit_at_set_same, same_from_bits_below}
use Rattle.std.proofs.lemmas.List.{ext_get_or, get_or-map, get_or-set_other, get_or-set_same, length-map, length-set}
use Rattle.std.proofs.lemmas.List.FromFn.{get_or-map-range_with_len, length-map-range_with_len}
use Rattle.std.proofs.lemmas.Simd.{mask_l-lt, ones-mask_l}
use Rattle.cards.specs.declared.seat.Seat.{Seat}
use Rattle.cards.specs.declared.seat.Seat.TheVariants.{North, East, South, West}
use Rattle.cards.specs.Deals.{IsPartition, cards_of}
use Rattle.cards.specs.Fixed.{none_fixed}
use Rattle.cards.specs.Given.{AreFree, is_among, with_cards}
use Rattle.std.proofs.lemmas.Bool.{cases_lt}
use Rattle.std.proofs.lemmas.Bool.Decides.{nat_tests}
use Rattle.std.proofs.lemmas.Nat.Bits.{bit_at_above, bit_at_and, bit_at_or, same_from_bits}
use Rattle.std.proofs.Common.{bit_and, max, min}
use Rattle.std.specs.Prelude.{is_some}
use Rattle.std.proofs.Common.{inl, inr}
use Rattle.std.proofs.lemmas.Nat.Bits.{bit_at-zero}
use Rattle.cards.specs.Pack.{seat_number}
use Rattle.cards.specs.Shuffle.{pack}
use Rattle.cards.specs.internal.GivenMasks.{IsGiven, are_thirteen, bits_of, given_at, given_of, mask_of}
use Rattle.cards.specs.internal.Masks.{IsMasks, seat_in, seat_mask, seats_of_masks}
use Rattle.cards.specs.internal.PackedMasks.{rest_of}
use Rattle.cards.proofs.DealMasks.{bit_at_seat}
use Rattle.cards.proofs.FullMasks.{full_masks, masks_of_partition, sum_of_full}

pub given_length : (masks : List ℕ) → length (given_of masks) ≡ 52
unfolding given_of pack
given_length masks = length-map-range_with_len (given_at masks) 0 52

given_read : (masks : List ℕ) (c : ℕ) → c < 52 → get_or (given_of masks) c None ≡ given_at masks c
unfolding given_of pack
given_read masks c below = get_or-map-range_with_len (given_at masks) 0 52 c c None below (omega arith)

pub none_given : given_of (0 ∷ 0 ∷ 0 ∷ 0 ∷ []) ≡ none_fixed
unfolding given_of pack
none_given = refl

-- ---- a card by its four bits

few_seats : (seat : Seat) → seat_number seat < 4
few_seats North = omega arith
few_seats x = omega arith

first_some : (p q r s : Bool) → (p ≡ false → q ≡ false → r ≡ false → s ≡ true)
    → (if p then Some North else if q then Some East else if r then Some South else if s then Some West else None)
    ≡ Some (if p then North else if q then East else if r then South else West)
first_some true q r s last = refl
first_some false true r s last = refl
first_some false false true s last = refl
first_some false false false s last = rw (last refl refl refl) refl

-- a card in one of the masks has a seat
pub seat_told : (masks : List ℕ) (c : ℕ) → bits_of masks c ≡ 1
    → given_at masks c ≡ Some (seat_in (mask_of masks North) (mask_of masks East) (mask_of masks South) c)
seat_told masks c one =
    first_some _ _ _ _ (λ p q r. eq-eqb (bit_at (mask_of masks West) c) 1
    (let n = eqb-false _ 1 p in let e = eqb-false _ 1 q in let s = eqb-false _ 1 r in
    omega (arith, one, n, e, s, bit_at-lt (mask_of masks North) c, bit_at-lt (mask_of masks East) c, bit_at-lt (mask_of masks South) c)))

abbrev bit_of : Seat → Seat → ℕ
bit_of holder seat = cond (seat_number holder == seat_number seat) 1 0

-- the bits of a card whose seat is told
four_bits : (a b d e : ℕ) (holder : Seat) → a + b + d + e < 2
    → (if a == 1 then Some North else if b == 1 then Some East else if d == 1 then Some South else if e == 1 then Some
    West else None) ≡ Some holder
    → (a ≡ bit_of holder North) × (b ≡ bit_of holder East) × (d ≡ bit_of holder South) × (e ≡ bit_of holder West)
four_bits a b d e holder few is = by_tests (a == 1) (b == 1) (d == 1) (e == 1) refl refl refl refl (ap number is)
  where
    number : Option Seat → ℕ
    number None = 4
    number (Some seat) = seat_number seat

    by_tests : (p q r s : Bool) → (a == 1) ≡ p → (b == 1) ≡ q → (d == 1) ≡ r → (e == 1) ≡ s
        → number (if p then Some North else if q then Some East else if r then Some South else if s then Some West else None) ≡ seat_number holder
        → (a ≡ bit_of holder North) × (b ≡ bit_of holder East) × (d ≡ bit_of holder South) × (e ≡ bit_of holder West)
    by_tests true q r s ea eb ed ee at_it = let one = eqb-true a 1 ea in
        rw (← at_it) (one, omega (arith, one, few), omega (arith, one, few), omega (arith, one, few))
    by_tests false true r s ea eb ed ee at_it = let one = eqb-true b 1 eb in
        rw (← at_it) (omega (arith, one, few), one, omega (arith, one, few), omega (arith, one, few))
    by_tests false false true s ea eb ed ee at_it = let one = eqb-true d 1 ed in
        rw (← at_it) (omega (arith, one, few), omega (arith, one, few), one, omega (arith, one, few))
    by_tests false false false true ea eb ed ee at_it = let one = eqb-true e 1 ee in
        rw (← at_it) (omega (arith, one, few), omega (arith, one, few), omega (arith, one, few), one)
    by_tests false false false false ea eb ed ee at_it = absurd (let less = few_seats holder in omega (arith, at_it, less))

-- ---- the masks of a deal

module _ (masks : List ℕ) (held : ℕ) (g : IsGiven masks held) (deal : List Seat) (count : length deal ≡ 52)
    (all : given_of masks ≡ map (λ seat. Some seat) deal) where
  told_bits : (c : ℕ) → c < 52
      → (bit_at (mask_of masks North) c ≡ bit_of (get_or deal c North) North) × (bit_at (mask_of masks East) c ≡ bit_of (get_or deal c North) East)
      × (bit_at (mask_of masks South) c ≡ bit_of (get_or deal c North) South) × (bit_at (mask_of masks West) c ≡ bit_of (get_or deal c North) West)
  told_bits c below =
      four_bits _ _ _ _ (get_or deal c North) (omega (arith, g.all c, bit_at-lt held c))
      (sym (given_read masks c below) ∙ ap (λ l. get_or l c None) all
      ∙ get_or-map (λ seat. Some seat) deal c North None (omega (arith, below, count)))

  told_bit : (seat : Seat) (c : ℕ) → c < 52 → bit_at (mask_of masks seat) c ≡ bit_of (get_or deal c North) seat
  told_bit North c below = (told_bits c below).0
  told_bit East c below = (told_bits c below).1
  told_bit South c below = (told_bits c below).2
  told_bit West c below = (told_bits c below).3

  below_52 : (seat : Seat) → seat_mask deal seat < 2 ^ 52
  below_52 seat = let long : length (map (λ holder. seat_number holder == seat_number seat) deal) ≡ 52 =
      simp length-map count in rw long at (mask_l-lt (map (λ holder. seat_number holder == seat_number seat) deal))

  pub told_mask : (seat : Seat) → mask_of masks seat ≡ seat_mask deal seat
  told_mask seat = same_from_bits_below 52 (mask_of masks seat) (seat_mask deal seat) (g.below seat) (below_52 seat)
      (λ c below. told_bit seat c below ∙ sym (bit_at_seat deal seat c (omega (arith, below, count))))

  one_bit : (holder : Seat) → bit_of holder North + bit_of holder East + bit_of holder South + bit_of holder West ≡ 1
  one_bit North = refl
  one_bit x = refl

  pub told_all : held ≡ 2 ^ 52 - 1
  told_all = same_from_bits_below 52 held (2 ^ 52 - 1) g.few (omega arith)
      (λ c below. let bits = told_bits c below in let one = one_bit (get_or deal c North) in
      let is : bit_at held c ≡ 1 = omega (arith, sym (g.all c), bits.0, bits.1, bits.2, bits.3, one) in
      is ∙ sym (bit_at_ones 52 c below))

  pub told_thirteen : IsPartition deal → are_thirteen masks ≡ true
  told_thirteen ok =
      let full = full_masks deal ok in
      rw (told_mask North, told_mask East, told_mask South, told_mask West, full.thirteen.0, full.thirteen.1, full.thirteen.2, full.thirteen.3) refl

  pub told_partition : are_thirteen masks ≡ true → IsPartition deal
  told_partition test =
      let n = and_parts _ _ test in
      let e = and_parts _ _ n.1 in
      let s = and_parts _ _ e.1 in
      let w = and_parts _ _ s.1 in
      let cards : (seat : Seat) → cards_of deal seat ≡ count_ones (mask_of masks seat) =
      λ seat. sym (ones-mask_l (λ holder. seat_number holder == seat_number seat) deal) ∙ ap count_ones (sym (told_mask seat)) in
      record {
        count = count;
        thirteen = λ seat. cards seat ∙ elim seat as (λ q. count_ones (mask_of masks q) ≡ 13) [
          | North ↦ eqb-true _ 13 n.0
          | East ↦ eqb-true _ 13 e.0
          | South ↦ eqb-true _ 13 s.0
          | West ↦ eqb-true _ 13 w.0
        ];
      }

-- ---- the deal of masks that have all cards

module _ (masks : List ℕ) (held : ℕ) (g : IsGiven masks held) (full : held ≡ 2 ^ 52 - 1) where
  abbrev shown : List Seat
  shown = seats_of_masks (mask_of masks North) (mask_of masks East) (mask_of masks South)

  shown_length : length shown ≡ 52
  unfolding seats_of_masks pack
  shown_length = length-map-range_with_len (seat_in (mask_of masks North) (mask_of masks East) (mask_of masks South)) 0 52

  shown_read : (c : ℕ) → c < 52 → get_or shown c North ≡ seat_in (mask_of masks North) (mask_of masks East) (mask_of masks South) c
  unfolding seats_of_masks pack
  shown_read c below = get_or-map-range_with_len (seat_in (mask_of masks North) (mask_of masks East)
      (mask_of masks South)) 0 52 c c North below (omega arith)

  pub all_shown : given_of masks ≡ map (λ seat. Some seat) shown
  all_shown = ext_get_or None (given_of masks) (map (λ seat. Some seat) shown) (given_length masks ∙ sym (length-map _ _ ∙ shown_length))
      (λ c inside. let below : c < 52 = omega (arith, inside, given_length masks) in
      let one : bits_of masks c ≡ 1 = g.all c ∙ ap (λ m. bit_at m c) full ∙ bit_at_ones 52 c below in
      given_read masks c below ∙ seat_told masks c one
      ∙ ap (λ seat. Some seat) (sym (shown_read c below))
      ∙ sym (get_or-map (λ seat. Some seat) shown c North None (omega (arith, below, shown_length))))

  pub masks_shown : are_thirteen masks ≡ true → IsMasks (mask_of masks North) (mask_of masks East)
      (mask_of masks South) (rest_of (mask_of masks North) (mask_of masks East) (mask_of masks South))
  masks_shown test =
      let ok = told_partition masks held g shown shown_length all_shown test in
      let told = told_mask masks held g shown shown_length all_shown in
      let sum = sum_of_full _ _ _ _ (full_masks shown ok) in
      masks_of_partition shown _ _ _ _ ok (told North) (told East) (told South) (omega (arith, sum, told North, told East, told South))

-- ---- a card more

abbrev with_card : ℕ → ℕ → ℕ
with_card mask card = bit_or mask (1 * 2 ^ card % 2 ^ 64)

module _ (masks : List ℕ) (held : ℕ) (g : IsGiven masks held) (card : ℕ) (below : card < 52) (seat : Seat) where
  abbrev more : List ℕ
  more = set masks (seat_number seat) (with_card (mask_of masks seat) card)

  inside : seat_number seat < length masks
  inside = rw g.count (few_seats seat)

  seat_again : (q r : Seat) → seat_number q ≡ seat_number r → mask_of masks q ≡ mask_of masks r
  seat_again q r e = ap (λ i. get_or masks i 0) e

  this_mask : (q : Seat) → seat_number q ≡ seat_number seat → mask_of more q ≡ with_card (mask_of masks q) card
  this_mask q e = ap (λ i. get_or more i 0) e ∙ get_or-set_same masks (seat_number seat) _ 0 inside
      ∙ ap (λ m. with_card m card) (sym (seat_again q seat e))

  other_mask : (q : Seat) → seat_number q ≢ seat_number seat → mask_of more q ≡ mask_of masks q
  other_mask q ne = get_or-set_other masks (seat_number seat) (seat_number q) _ 0 ne

  by_seat : (P : ℕ → Type 0) (q : Seat) → P (with_card (mask_of masks q) card) → P (mask_of masks q) → P (mask_of more q)
  by_seat P q this other = by_test (seat_number q == seat_number seat) refl
    where
      by_test : (b : Bool) → (seat_number q == seat_number seat) ≡ b → P (mask_of more q)
      by_test true e = subst P (sym (this_mask q (eqb-true _ _ e))) this
      by_test false e = subst P (sym (other_mask q (eqb-false _ _ e))) other

  far_bit : (q : Seat) (c : ℕ) → c ≢ card → bit_at (mask_of more q) c ≡ bit_at (mask_of masks q) c
  far_bit q c ne = by_seat (λ m. bit_at m c ≡ bit_at (mask_of masks q) c) q
      (bit_at_set_other w64 (mask_of masks q) card (omega (arith, below)) c ne) refl

  small : with_card 0 card < 2 ^ 52
  small = or_lt 52 0 (1 * 2 ^ card % 2 ^ 64) (omega arith) (rw (one_shl card 64 (omega (arith, below))) (pow-lt below))

  in_52 : (m : ℕ) → m < 2 ^ 52 → with_card m card < 2 ^ 52
  in_52 m h = or_lt 52 m (1 * 2 ^ card % 2 ^ 64) h (rw (one_shl card 64 (omega (arith, below))) (pow-lt below))

  module _ (free : bit_at held card ≡ 0) where
    none_held : (q : Seat) → bit_at (mask_of masks q) card ≡ 0
    none_held North = omega (arith, g.all card, free)
    none_held x = omega (arith, g.all card, free)

    this_bit : (q : Seat) → bit_at (mask_of more q) card ≡ bit_of q seat
    this_bit q = by_test (seat_number q == seat_number seat) refl
      where
        by_test : (b : Bool) → (seat_number q == seat_number seat) ≡ b → bit_at (mask_of more q) card ≡ bit_of q seat
        by_test true e = rw e (ap (λ m. bit_at m card) (this_mask q (eqb-true _ _ e))
            ∙ bit_at_set_same w64 (mask_of masks q) card (omega (arith, below)))
        by_test false e = rw e (ap (λ m. bit_at m card) (other_mask q (eqb-false _ _ e)) ∙ none_held q)

    bits_more : (c : ℕ) → bits_of more c ≡ bit_at (with_card held card) c
    bits_more c = by_test (c == card) refl
      where
        one : (holder : Seat) → bit_of North holder + bit_of East holder + bit_of South holder + bit_of West holder ≡ 1
        one North = refl
        one x = refl

        by_test : (b : Bool) → (c == card) ≡ b → bits_of more c ≡ bit_at (with_card held card) c
        by_test true e = rw (eqb-true c card e) (rw (this_bit North, this_bit East, this_bit South, this_bit West)
            (one seat ∙ sym (bit_at_set_same w64 held card (omega (arith, below)))))
        by_test false e =
            let ne = eqb-false c card e in
            rw (far_bit North c ne, far_bit East c ne, far_bit South c ne, far_bit West c ne)
            (g.all c ∙ sym (bit_at_set_other w64 held card (omega (arith, below)) c ne))

    pub given_more : IsGiven more (with_card held card)
    given_more = record {
      count = length-set masks (seat_number seat) _ ∙ g.count;
      few = in_52 held g.few;
      below = λ q. by_seat (λ m. m < 2 ^ 52) q (in_52 (mask_of masks q) (g.below q)) (g.below q);
      all = bits_more;
    }

    pub was_free : get_or (given_of masks) card None ≡ None
    was_free = given_read masks card below ∙ rw (none_held North, none_held East, none_held South, none_held West) refl

    here : given_at more card ≡ Some seat
    here = rw (this_bit North, this_bit East, this_bit South, this_bit West) (its seat)
      where
        its : (holder : Seat)
            → (if bit_of North holder == 1 then Some North else if bit_of East holder == 1 then Some East else if
            bit_of South holder == 1 then Some South else if bit_of West holder == 1 then Some West else None) ≡ Some
            holder
        its North = refl
        its x = refl

    far : (c : ℕ) → c ≢ card → given_at more c ≡ given_at masks c
    far c ne = rw (far_bit North c ne, far_bit East c ne, far_bit South c ne, far_bit West c ne) refl

    pub one_given : given_of more ≡ set (given_of masks) card (Some seat)
    one_given = ext_get_or None (given_of more) (set (given_of masks) card (Some seat))
        (given_length more ∙ sym (length-set (given_of masks) card (Some seat) ∙ given_length masks))
        (λ c inside. let few : c < 52 = omega (arith, inside, given_length more) in by_test c few (c == card) refl)
      where
        by_test : (c : ℕ) → c < 52 → (b : Bool) → (c == card) ≡ b
            → get_or (given_of more) c None ≡ get_or (set (given_of masks) card (Some seat)) c None
        by_test c few true e =
            rw (eqb-true c card e) (given_read more card below ∙ here
            ∙ sym (get_or-set_same (given_of masks) card (Some seat) None
            (omega (arith, below, given_length masks))))
        by_test c few false e =
            let ne = eqb-false c card e in
            given_read more c few ∙ far c ne ∙ sym (given_read masks c few) ∙ sym (get_or-set_other (given_of masks) card c (Some seat) None ne)

-- a card that is held was given
pub was_held : (masks : List ℕ) (held : ℕ) → IsGiven masks held → (card : ℕ) → card < 52 → bit_at held card ≡ 1
    → IsSome (get_or (given_of masks) card None)
was_held masks held g card below one = rw (given_read masks card below, seat_told masks card (g.all card ∙ one)) refl

-- ---- more cards

max_zero : (a : ℕ) → max a 0 ≡ a
max_zero a = grind (arith, nat_tests)

min_zero : (a : ℕ) → min a 0 ≡ 0
min_zero a = grind (arith, nat_tests)

zero_min : (a : ℕ) → min 0 a ≡ 0
zero_min a = grind (arith, nat_tests)

in_pack : (cards c : ℕ) → cards < 2 ^ 52 → bit_at cards c ≡ 1 → c < 52
in_pack cards c below one = elim (cases_lt c 52) [
  | inl h ↦ h
  | inr h ↦ absurd (omega (arith, one, bit_at_above cards 52 c below h))
]

pub with_cards_length : (cards : ℕ) (seat : Seat) (given : List (Option Seat)) → length (with_cards cards seat given) ≡ 52
unfolding with_cards pack
with_cards_length cards seat given = length-map-range_with_len (λ c. if is_among cards c then Some seat else get_or given c None) 0 52

pub with_cards_read : (cards : ℕ) (seat : Seat) (given : List (Option Seat)) (c : ℕ) → c < 52
    → get_or (with_cards cards seat given) c None ≡ (if is_among cards c then Some seat else get_or given c None)
unfolding with_cards pack
with_cards_read cards seat given c below = get_or-map-range_with_len
    (λ c. if is_among cards c then Some seat else get_or given c None) 0 52 c c None below (omega arith)

module _ (masks : List ℕ) (held : ℕ) (g : IsGiven masks held) (cards : ℕ) (below : cards < 2 ^ 52) (seat : Seat)
    (apart : bit_and held cards ≡ 0) where
  abbrev all_more : List ℕ
  all_more = set masks (seat_number seat) (bit_or (mask_of masks seat) cards)

  this_mask_all : (q : Seat) → seat_number q ≡ seat_number seat → mask_of all_more q ≡ bit_or (mask_of masks q) cards
  this_mask_all q e =
      ap (λ i. get_or all_more i 0) e ∙ get_or-set_same masks (seat_number seat) _ 0 (rw g.count (few_seats seat))
      ∙ ap (λ m. bit_or m cards) (sym (ap (λ i. get_or masks i 0) e))

  other_mask_all : (q : Seat) → seat_number q ≢ seat_number seat → mask_of all_more q ≡ mask_of masks q
  other_mask_all q ne = get_or-set_other masks (seat_number seat) (seat_number q) _ 0 ne

  -- a bit of a mask, by whether the card is among the new ones
  not_among : (q : Seat) (c : ℕ) → bit_at cards c ≡ 0 → bit_at (mask_of all_more q) c ≡ bit_at (mask_of masks q) c
  not_among q c none = by_test (seat_number q == seat_number seat) refl
    where
      by_test : (b : Bool) → (seat_number q == seat_number seat) ≡ b → bit_at (mask_of all_more q) c ≡ bit_at (mask_of masks q) c
      by_test true e =
          ap (λ m. bit_at m c) (this_mask_all q (eqb-true _ _ e)) ∙ bit_at_or (mask_of masks q) cards c
          ∙ ap (max (bit_at (mask_of masks q) c)) none ∙ max_zero (bit_at (mask_of masks q) c)
      by_test false e = ap (λ m. bit_at m c) (other_mask_all q (eqb-false _ _ e))

  free_there : (c : ℕ) → bit_at cards c ≡ 1 → bit_at held c ≡ 0
  free_there c one =
      let both : min (bit_at held c) (bit_at cards c) ≡ 0 = sym (bit_at_and held cards c) ∙ ap (λ m. bit_at m c) apart ∙ bit_at-zero c in
      min_one (bit_at held c) (bit_at-lt held c) (ap (min (bit_at held c)) (sym one) ∙ both)
    where
      min_one : (a : ℕ) → a < 2 → min a 1 ≡ 0 → a ≡ 0
      min_one a few e = grind (arith, nat_tests)

  none_there : (q : Seat) (c : ℕ) → bit_at cards c ≡ 1 → bit_at (mask_of masks q) c ≡ 0
  none_there North c one = omega (arith, g.all c, free_there c one)
  none_there x c one = omega (arith, g.all c, free_there c one)

  among : (q : Seat) (c : ℕ) → bit_at cards c ≡ 1 → bit_at (mask_of all_more q) c ≡ bit_of q seat
  among q c one = by_test (seat_number q == seat_number seat) refl
    where
      by_test : (b : Bool) → (seat_number q == seat_number seat) ≡ b → bit_at (mask_of all_more q) c ≡ bit_of q seat
      by_test true e =
          rw e (ap (λ m. bit_at m c) (this_mask_all q (eqb-true _ _ e)) ∙ bit_at_or (mask_of masks q) cards c ∙ rw (none_there q c one, one) refl)
      by_test false e = rw e (ap (λ m. bit_at m c) (other_mask_all q (eqb-false _ _ e)) ∙ none_there q c one)

  by_bit : (P : Type 0) (c : ℕ) → (bit_at cards c ≡ 0 → P) → (bit_at cards c ≡ 1 → P) → P
  by_bit P c zero_case one_case = by_test (bit_at cards c == 1) refl
    where
      by_test : (b : Bool) → (bit_at cards c == 1) ≡ b → P
      by_test true e = one_case (eqb-true _ _ e)
      by_test false e = zero_case (let ne = eqb-false _ _ e in omega (arith, ne, bit_at-lt cards c))

  below_all : (q : Seat) → mask_of all_more q < 2 ^ 52
  below_all q = by_test (seat_number q == seat_number seat) refl
    where
      by_test : (b : Bool) → (seat_number q == seat_number seat) ≡ b → mask_of all_more q < 2 ^ 52
      by_test true e = subst (λ m. m < 2 ^ 52) (sym (this_mask_all q (eqb-true _ _ e))) (or_lt 52 (mask_of masks q) cards (g.below q) below)
      by_test false e = subst (λ m. m < 2 ^ 52) (sym (other_mask_all q (eqb-false _ _ e))) (g.below q)

  one_seat : (holder : Seat) → bit_of North holder + bit_of East holder + bit_of South holder + bit_of West holder ≡ 1
  one_seat North = refl
  one_seat x = refl

  bits_all : (c : ℕ) → bits_of all_more c ≡ bit_at (bit_or held cards) c
  bits_all c = by_bit (bits_of all_more c ≡ bit_at (bit_or held cards) c) c
      (λ none. rw (not_among North c none, not_among East c none, not_among South c none, not_among West c none)
      (g.all c ∙ sym (bit_at_or held cards c ∙ ap (max (bit_at held c)) none ∙ max_zero (bit_at held c))))
      (λ one. rw (among North c one, among East c one, among South c one, among West c one)
      (one_seat seat ∙ sym (bit_at_or held cards c ∙ rw (free_there c one, one) refl)))

  pub given_all : IsGiven all_more (bit_or held cards)
  given_all = record {
    count = length-set masks (seat_number seat) _ ∙ g.count;
    few = or_lt 52 held cards g.few below;
    below = below_all;
    all = bits_all;
  }

  pub were_free : AreFree cards (given_of masks)
  were_free c one =
      let inside : c < 52 = in_pack cards c below one in
      given_read masks c inside ∙ rw (none_there North c one, none_there East c one, none_there South c one, none_there West c one) refl

  seat_of_all : (holder : Seat)
      → (if bit_of North holder == 1 then Some North else if bit_of East holder == 1 then Some East else if bit_of
      South holder == 1 then Some South else if bit_of West holder == 1 then Some West else None) ≡ Some holder
  seat_of_all North = refl
  seat_of_all x = refl

  pub all_given : given_of all_more ≡ with_cards cards seat (given_of masks)
  all_given = ext_get_or None (given_of all_more) (with_cards cards seat (given_of masks))
      (given_length all_more ∙ sym (with_cards_length cards seat (given_of masks)))
      (λ c inside. let few : c < 52 = omega (arith, inside, given_length all_more) in
      given_read all_more c few ∙ at_card c few ∙ sym (with_cards_read cards seat (given_of masks) c few))
    where
      at_card : (c : ℕ) → c < 52 → given_at all_more c ≡ (if is_among cards c then Some seat else get_or (given_of masks) c None)
      at_card c few = by_bit (given_at all_more c ≡ (if is_among cards c then Some seat else get_or (given_of masks) c None)) c
          (λ none. rw (
            not_among North c none,
            not_among East c none,
            not_among South c none,
            not_among West c none,
            none,
          ) (sym (given_read masks c few)))
          (λ one. rw (among North c one, among East c one, among South c one, among West c one, one) (seat_of_all seat))

-- where one of the cards was given
pub not_free : (masks : List ℕ) (held : ℕ) → IsGiven masks held → (cards : ℕ) → cards < 2 ^ 52
    → (bit_and held cards ≡ 0 → ⊥) → AreFree cards (given_of masks) → ⊥
not_free masks held g cards below some free = some (same_from_bits (bit_and held cards) 0
    (λ c. bit_at_and held cards c ∙ apart c ∙ sym (bit_at-zero c)))
  where
    apart : (c : ℕ) → min (bit_at held c) (bit_at cards c) ≡ 0
    apart c = by_test (bit_at cards c == 1) (bit_at held c == 1) refl refl
      where
        by_test : (p q : Bool) → (bit_at cards c == 1) ≡ p → (bit_at held c == 1) ≡ q → min (bit_at held c) (bit_at cards c) ≡ 0
        by_test false q ep eq = let ne = eqb-false _ _ ep in let none : bit_at cards c ≡ 0 =
            omega (arith, ne, bit_at-lt cards c) in rw none (min_zero (bit_at held c))
        by_test true false ep eq = let ne = eqb-false _ _ eq in let none : bit_at held c ≡ 0 =
            omega (arith, ne, bit_at-lt held c) in rw none (zero_min (bit_at cards c))
        by_test true true ep eq =
            absurd (let one = eqb-true _ _ ep in let some = was_held masks held g c (in_pack cards c below one) (eqb-true _ _ eq) in
            let bad : false ≡ true = sym (ap is_some (free c one)) ∙ some in cc)
