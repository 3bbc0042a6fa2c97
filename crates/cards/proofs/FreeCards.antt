-- The exchanges of the free cards, and the masks of what they leave.
use Rattle.std.proofs.Common.{◌≡◌, ℕ, zero, suc, ◌+◌, ◌-◌, ◌*◌, ◌%◌, ◌^◌, ◌<◌, ◌≤◌, ◌≢◌, ◌&&◌, Bool, true, false}
use Rattle.std.proofs.Common.{cond, List, length, get_or, map, refl, sym, ap, ◌∙◌, arith, subst, inl, inr, ◌⊎◌, take}
use Rattle.std.specs.Prelude.{Option, None, nat_le, ltb}
use Rattle.std.specs.List.{swap}
use Rattle.std.specs.Int.{bit_at, w64}
use Rattle.std.specs.Int.Bits.{bit_or}
use Rattle.std.proofs.lemmas.Bool.{cases_lt}
use Rattle.std.proofs.lemmas.Bool.Decides.{nat_tests}
use Rattle.std.proofs.lemmas.List.{length-take}
use Rattle.std.proofs.lemmas.List.Sums.{count_by-le-length, count_by_more_no, count_by_more_yes}
use Rattle.lcg48.specs.Sequence.{step, state_after}
use Rattle.cards.specs.declared.seat.Seat.{Seat}
use Rattle.cards.specs.Shuffle.{place_of, traced, card_at, other_of}
use Rattle.cards.specs.Fixed.{free_count, free_index, places_for, is_free}
use Rattle.cards.specs.internal.Around.{AreCards, IsListed, IsDealingAround, IsSettled, fixed_at, settles_within}
use Rattle.std.proofs.lemmas.Nat.{or_lt, one_shl}
use Rattle.std.proofs.lemmas.Nat.Bits.{bit_at_set_same, bit_at_set_other, bit_at-zero}
use Rattle.std.proofs.Math.Pow.{pow-lt}
use lib.Lanes.{mask_l}
use Rattle.cards.specs.Shuffle.{pack}
use Rattle.cards.specs.Deals.{position_of}
use Rattle.cards.specs.internal.MaskBits.{bit_at_pack, mask-pack-lt, same_masks}
use Rattle.cards.proofs.Dealing.{card_at-position_of, position_of-card_at}
use Rattle.cards.proofs.Drawing.{state_after-zero, state_after-more, state-below, place-below}
use Rattle.cards.proofs.Tracing.{exchange, settled, other_of-below, get_or-swap}
use Rattle.cards.proofs.FewPlaces.{are_places, drawn_at, traced_all, item_below}

-- all exchanges are to come
pub dealing_around_first : (fixed : List (Option Seat)) (free : List ℕ) (x : ℕ) → length fixed ≡ 52
    → IsListed fixed free (free_count fixed) → IsDealingAround fixed free x x free (free_count fixed)
dealing_around_first fixed free x long listed =
    let m : ℕ = free_count fixed in
    let few : m ≤ 52 = omega (arith, long, count_by-le-length is_free fixed) in
    let none : 0 ≡ m - m = omega arith in
    record {
      long = long;
      few = few;
      listed = listed;
      drawn = state_after-zero x ∙ ap (state_after x) none;
      card = λ i h. ap (λ k. get_or free k 0) (traced_all m x i few);
    }

pub dealing_around_at : (fixed : List (Option Seat)) (free : List ℕ) (x state : ℕ) (cards : List ℕ) (n n' : ℕ)
    → n ≡ n' → IsDealingAround fixed free x state cards n → IsDealingAround fixed free x state cards n'
dealing_around_at fixed free x state cards n n' e d = subst (IsDealingAround fixed free x state cards) e d

-- an exchange of a position with itself
same_place : (a b t : ℕ) → a ≡ b → other_of a b t ≡ t
same_place a b t e = grind (arith, nat_tests)

-- the exchange at position p with the next draw; at the lowest position nothing moves
pub dealing_around_on : (fixed : List (Option Seat)) (free : List ℕ) (x old new : ℕ) (cards next : List ℕ)
    (place p : ℕ) → p < free_count fixed → length cards ≡ 52
    → new ≡ step old → place ≡ place_of (p + 1) new → next ≡ swap cards p place
    → IsDealingAround fixed free x old cards (p + 1) → IsDealingAround fixed free x new next p
dealing_around_on fixed free x old new cards next place p below long stepped is swapped before = record {
  long = before.long;
  few = before.few;
  listed = before.listed;
  drawn = state;
  card = λ k h. elim (cases_lt 0 p) [ inl above ↦ exchanged above k h | inr none ↦ kept (omega arith) k h ];
}
  where
    m : ℕ
    m = free_count fixed

    few : m ≤ 52
    few = before.few

    drawn : ℕ
    drawn = m - (p + 1)

    state : new ≡ state_after x (m - p)
    state =
        let e : drawn + 1 ≡ m - p = omega arith in
        stepped ∙ ap step before.drawn ∙ sym (state_after-more x drawn) ∙ ap (state_after x) e

    exchanged : 0 < p → (k : ℕ) → k < m → get_or next (traced (places_for m x) k (p - 1)) 0 ≡ get_or free (card_at (places_for m x) k) 0
    exchanged above k h =
        let i : ℕ = 51 - p in
        let e : m - p ≡ m + i - 51 = omega arith in
        let g : p + 1 ≡ 52 - i = omega arith in
        let back : p ≡ p + 1 - 1 = omega arith in
        let read : place ≡ get_or (places_for m x) i 0 =
        is ∙ ap (place_of (p + 1)) (state ∙ ap (state_after x) e)
        ∙ ap (λ j. place_of j (state_after x (m + i - 51))) g
        ∙ sym (drawn_at m x i (omega arith) (omega arith)) in
        exchange (places_for m x) cards next place p k (are_places m x) long above (omega arith) read swapped
        ∙ ap (λ n. get_or cards (traced (places_for m x) k n) 0) back ∙ before.card k h

    kept : p ≡ 0 → (k : ℕ) → k < m → get_or next (traced (places_for m x) k (p - 1)) 0 ≡ get_or free (card_at (places_for m x) k) 0
    kept none k h =
        let e : m - p ≡ drawn + 1 = omega arith in
        let fits : new < 2 ^ 48 = subst (λ y. y < 2 ^ 48) (sym (state ∙ ap (state_after x) e)) (state-below x drawn) in
        let same : p ≡ place = omega (arith, is, place-below (p + 1) new (omega arith) fits) in
        let i : ℕ = traced (places_for m x) k (p - 1) in
        let back : p - 1 ≡ p + 1 - 1 = omega arith in
        get_or-swap cards next p place i 0 (omega arith) (omega arith) swapped
        ∙ ap (λ j. get_or cards j 0) (same_place p place i same)
        ∙ ap (λ n. get_or cards (traced (places_for m x) k n) 0) back ∙ before.card k h

-- the card that stays at position p
pub free_card_settled : (fixed : List (Option Seat)) (free : List ℕ) (x state : ℕ) (cards : List ℕ) (p : ℕ)
    → p < free_count fixed → IsDealingAround fixed free x state cards p
    → get_or cards p 0 ≡ get_or free (card_at (places_for (free_count fixed) x) p) 0
free_card_settled fixed free x state cards p below dealing =
    let m : ℕ = free_count fixed in
    let few : m ≤ 52 = dealing.few in
    ap (λ k. get_or cards k 0) (sym (settled (places_for m x) p (are_places m x) (omega arith))) ∙ dealing.card p below

-- after an exchange there are the same cards
pub cards_swapped : (cards next : List ℕ) (p place : ℕ) → length cards ≡ 52 → p < 52 → place < 52
    → next ≡ swap cards p place → AreCards cards → AreCards next
cards_swapped cards next p place long h h' is all i inside =
    rw (get_or-swap cards next p place i 0 (rw long h) (rw long h') is) (all (other_of p place i) (other_of-below p place i 52 h h' inside))

pub index_more : (fixed : List (Option Seat)) (n : ℕ) → n < length fixed
    → free_index fixed (n + 1) ≡ free_index fixed n + cond (is_free (fixed_at fixed n)) 1 0
index_more fixed n inside = go (is_free (fixed_at fixed n)) refl
  where
    go : (b : Bool) → is_free (fixed_at fixed n) ≡ b → free_index fixed (n + 1) ≡ free_index fixed n + cond b 1 0
    go true e = count_by_more_yes is_free fixed n None inside e
    go false e = count_by_more_no is_free fixed n None inside e ∙ omega arith

pub index_rises : (fixed : List (Option Seat)) (n k : ℕ) → n + k ≤ length fixed → free_index fixed n ≤ free_index fixed (n + k)
index_rises fixed n zero inside = let e : n ≡ n + 0 = omega arith in omega (arith, ap (free_index fixed) e)
index_rises fixed n (suc k) inside =
    let e : n + suc k ≡ n + k + 1 = omega arith in
    let before = index_rises fixed n k (omega arith) in
    omega (arith, before, ap (free_index fixed) e, index_more fixed (n + k) (omega arith))

index_apart : (fixed : List (Option Seat)) (c d : ℕ) → length fixed ≡ 52 → c < d → d < 52
    → is_free (fixed_at fixed c) ≡ true → free_index fixed c < free_index fixed d
index_apart fixed c d long less inside vacant =
    let e : d ≡ c + 1 + (d - (c + 1)) = omega arith in
    let one : free_index fixed (c + 1) ≡ free_index fixed c + 1 = index_more fixed c (omega arith)
    ∙ ap (λ b. free_index fixed c + cond b 1 0) vacant in
    omega (arith, one, index_rises fixed (c + 1) (d - (c + 1)) (omega arith), ap (free_index fixed) e)

-- two free cards with one index are one card
pub same_index : (fixed : List (Option Seat)) (c d : ℕ) → length fixed ≡ 52 → c < 52 → d < 52
    → is_free (fixed_at fixed c) ≡ true → is_free (fixed_at fixed d) ≡ true
    → free_index fixed c ≡ free_index fixed d → c ≡ d
same_index fixed c d long h h' vacant vacant' e =
    elim (cases_lt c d) [
      | inl less ↦ absurd (omega (arith, e, index_apart fixed c d long less h' vacant))
      | inr more ↦ elim (cases_lt d c) [
        | inl less ↦ absurd (omega (arith, e, index_apart fixed d c long less h vacant'))
        | inr none ↦ omega arith
      ]
    ]

pub index_below : (fixed : List (Option Seat)) (c : ℕ) → free_index fixed c ≤ c
index_below fixed c = omega (arith, count_by-le-length is_free (take c fixed), length-take c fixed)

within_first : (low high p : ℕ) → p ≡ low → low < high → (nat_le low p && ltb p high) ≡ true
within_first low high p e h = grind (arith, nat_tests)

within_not_first : (low high p : ℕ) → p ≢ low → (nat_le low p && ltb p high) ≡ (nat_le (low + 1) p && ltb p high)
within_not_first low high p e = grind (arith, nat_tests)

within_nothing : (low high p : ℕ) → high ≤ low → (nat_le low p && ltb p high) ≡ false
within_nothing low high p h = grind (arith, nat_tests)

and_false : (b : Bool) → (b && false) ≡ false
and_false true = refl
and_false false = refl

-- no position is from high on and below high
pub none_settles : (fixed : List (Option Seat)) (places : List ℕ) (low high c : ℕ) → high ≤ low → settles_within fixed places low high c ≡ false
none_settles fixed places low high c h =
    ap (λ b. is_free (fixed_at fixed c) && b) (within_nothing low high (position_of places (free_index fixed c)) h)
    ∙ and_false (is_free (fixed_at fixed c))

-- the card that stays at position low
settles_here : (fixed : List (Option Seat)) (free : List ℕ) (m x low high y : ℕ) → m ≡ free_count fixed → m ≤ 52
    → IsListed fixed free m → low < high → high ≤ m → y ≡ get_or free (card_at (places_for m x) low) 0
    → settles_within fixed (places_for m x) low high y ≡ true
settles_here fixed free m x low high y all few listed less inside is =
    let k : ℕ = card_at (places_for m x) low in
    let below : k < m = item_below m x low few (omega arith) in
    let vacant : is_free (fixed_at fixed y) ≡ true = ap (λ c. is_free (fixed_at fixed c)) is ∙ listed.frees k below in
    let index : free_index fixed y ≡ k = ap (free_index fixed) is ∙ listed.index k below in
    let here : position_of (places_for m x) (free_index fixed y) ≡ low = ap (position_of (places_for m x)) index
    ∙ position_of-card_at (places_for m x) low (omega arith) in
    rw (vacant, within_first low high (position_of (places_for m x) (free_index fixed y)) here less) refl

-- any other card
settles_elsewhere : (fixed : List (Option Seat)) (free : List ℕ) (m x low high y c : ℕ) → m ≡ free_count fixed
    → length fixed ≡ 52 → m ≤ 52 → IsListed fixed free m → low < m → y ≡ get_or free (card_at (places_for m x) low) 0
    → c < 52 → c ≢ y → settles_within fixed (places_for m x) low high c ≡ settles_within fixed (places_for m x) (low + 1) high c
settles_elsewhere fixed free m x low high y c all long few listed inside is below other = go (is_free (fixed_at fixed c)) refl
  where
    k : ℕ
    k = card_at (places_for m x) low

    k_below : k < m
    k_below = item_below m x low few inside

    y_below : y < 52
    y_below = rw is (listed.below k (omega (arith, k_below)))

    apart : is_free (fixed_at fixed c) ≡ true → position_of (places_for m x) (free_index fixed c) ≢ low
    apart vacant e =
        let back = (card_at-position_of (places_for m x) (free_index fixed c) (are_places m x) (omega (arith, index_below fixed c))).1 in
        let index : free_index fixed c ≡ free_index fixed y = sym back ∙ ap (card_at (places_for m x)) e
        ∙ sym (listed.index k k_below) ∙ ap (free_index fixed) (sym is) in
        other (same_index fixed c y long below y_below vacant (ap (λ d. is_free (fixed_at fixed d)) is ∙ listed.frees k k_below) index)

    go : (b : Bool) → is_free (fixed_at fixed c) ≡ b → settles_within fixed (places_for m x) low high
        c ≡ settles_within fixed (places_for m x) (low + 1) high c
    go true e = ap (λ b. is_free (fixed_at fixed c) && b) (within_not_first low high (position_of (places_for m x) (free_index fixed c)) (apart e))
    go false e = rw e refl

-- the bits of the positions from low on, once those above low are there
pub one_settles_around : (fixed : List (Option Seat)) (free : List ℕ) (m x mask low high y : ℕ) → m ≡ free_count fixed
    → length fixed ≡ 52 → m ≤ 52 → IsListed fixed free m → low < high → high ≤ m
    → y ≡ get_or free (card_at (places_for m x) low) 0 → y < 52
    → ((c : ℕ) → c < 52 → bit_at mask c ≡ cond (settles_within fixed (places_for m x) (low + 1) high c) 1 0)
    → (c : ℕ) → c < 52 → bit_at (bit_or mask (1 * 2 ^ y % 2 ^ 64)) c ≡ cond (settles_within fixed (places_for m x) low high c) 1 0
one_settles_around fixed free m x mask low high y all long few listed less inside is below done c h =
    elim (cases_eq c y) [
      | inl same ↦
          ap (bit_at (bit_or mask (1 * 2 ^ y % 2 ^ 64))) same ∙ bit_at_set_same w64 mask y (omega arith)
          ∙ ap (λ b. cond b 1 0) (sym (ap (settles_within fixed (places_for m x) low high) same
          ∙ settles_here fixed free m x low high y all few listed less inside is))
      | inr other ↦
          bit_at_set_other w64 mask y (omega arith) c other ∙ done c h
          ∙ ap (λ b. cond b 1 0) (sym (settles_elsewhere fixed free m x low high y c all long few listed (omega arith) is h other))
    ]
  where
    cases_eq : (a b : ℕ) → (a ≡ b) ⊎ (a ≢ b)
    cases_eq a b = elim (cases_lt a b) [
      | inl l ↦ inr (λ e. absurd (omega arith))
      | inr g ↦ elim (cases_lt b a) [ inl l ↦ inr (λ e. absurd (omega arith)) | inr k ↦ inl (omega arith) ]
    ]

pub mask_settles_around : (fixed : List (Option Seat)) (places : List ℕ) (mask low high : ℕ) → mask < 2 ^ 52
    → ((c : ℕ) → c < 52 → bit_at mask c ≡ cond (settles_within fixed places low high c) 1 0)
    → mask ≡ mask_l (map (settles_within fixed places low high) pack)
mask_settles_around fixed places mask low high fits bits =
    same_masks mask _ fits (mask-pack-lt (settles_within fixed places low high))
    (λ c h. bits c h ∙ sym (bit_at_pack (settles_within fixed places low high) c h))

mask_fits : (mask x : ℕ) → mask < 2 ^ 52 → x < 52 → bit_or mask (1 * 2 ^ x % 2 ^ 64) < 2 ^ 52
mask_fits mask x h below = rw (one_shl x 64 (omega arith)) (or_lt 52 mask (2 ^ x) h (pow-lt below))

pub no_mask : (fixed : List (Option Seat)) (places : List ℕ) (low high : ℕ) → high ≤ low
    → 0 ≡ mask_l (map (settles_within fixed places low high) pack)
no_mask fixed places low high h =
    mask_settles_around fixed places 0 low high (omega arith)
    (λ c inside. bit_at-zero c ∙ ap (λ b. cond b 1 0) (sym (none_settles fixed places low high c h)))

-- before the first exchange
pub nothing_settled : (x : ℕ) (cards : List ℕ) (low high : ℕ) → high ≡ low → IsSettled x x cards cards 0 low high
nothing_settled x cards low high e = record {
  dealing = λ fixed free y all d. dealing_around_at fixed free y x cards high low e d;
  mask = λ fixed free y all d. no_mask fixed (places_for (free_count fixed) y) low high (omega arith);
}

-- one exchange more, at position p
pub one_settled : (old state draw new : ℕ) (cards now next : List ℕ) (mask low p high y : ℕ) → draw ≡ new
    → low ≡ p + 1 → p < high → IsSettled old state cards now mask low high
    → ((fixed : List (Option Seat)) (free : List ℕ) (x : ℕ) → p < free_count fixed
    → IsDealingAround fixed free x state now (p + 1) → IsDealingAround fixed free x draw next p)
    → y ≡ get_or next p 0 → y < 52 → IsSettled old new cards next (bit_or mask (1 * 2 ^ y % 2 ^ 64)) p high
one_settled old state draw new cards now next mask low p high y drawn at inside before exchanged stays below = record {
  dealing = here;
  mask = λ fixed free x all d.
      let places : List ℕ = places_for (free_count fixed) x in
      let settles : ℕ → ℕ → Bool = λ n. settles_within fixed places n high in
      let is : mask ≡ mask_l (map (settles (p + 1)) pack) = before.mask fixed free x all d ∙ ap (λ n. mask_l (map (settles n) pack)) at in
      mask_settles_around fixed places (bit_or mask (1 * 2 ^ y % 2 ^ 64)) p high
      (mask_fits mask y (subst (λ s. s < 2 ^ 52) (sym is) (mask-pack-lt (settles (p + 1)))) below)
      (one_settles_around fixed free (free_count fixed) x mask p high y refl d.long d.few d.listed inside all
      (stays ∙ free_card_settled fixed free x new next p (omega (arith, all)) (here fixed free x all d)) below
      (λ c h. ap (λ s. bit_at s c) is ∙ bit_at_pack (settles (p + 1)) c h));
}
  where
    here : (fixed : List (Option Seat)) (free : List ℕ) (x : ℕ) → high ≤ free_count fixed
        → IsDealingAround fixed free x old cards high → IsDealingAround fixed free x new next p
    here fixed free x all d =
        subst (λ s. IsDealingAround fixed free x s next p) drawn
        (exchanged fixed free x (omega (arith, all)) (dealing_around_at fixed free x state now low (p + 1) at (before.dealing fixed free x all d)))

pub settled_at : (old new : ℕ) (cards next : List ℕ) (mask low low' high : ℕ) → low ≡ low'
    → IsSettled old new cards next mask low high → IsSettled old new cards next mask low' high
settled_at old new cards next mask low low' high e done = subst (λ n. IsSettled old new cards next mask n high) e done
