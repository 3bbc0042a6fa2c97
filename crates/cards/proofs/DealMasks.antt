-- Four masks and the deal that they show give each other.
use Rattle.std.proofs.Common.{◌≡◌, ℕ, ◌+◌, ◌*◌, ◌/◌, ◌%◌, ◌^◌, ◌<◌, ◌==◌, Bool, true, false, cond, List, [], ◌∷◌}
use Rattle.std.proofs.Common.{◌++◌, length, map, take, refl, sym, ◌∙◌, ap, arith, get_or, pow-suc}
use Rattle.std.specs.Prelude.{if◌then◌else◌}
use Rattle.std.specs.Int.{bit_at}
use Rattle.std.specs.List.{range_with_len}
use Rattle.std.proofs.lemmas.List.{ext_get_or, get_or-map, length-map, length-take, take_more}
use Rattle.std.proofs.lemmas.List.FromFn.{get_or-map-range_with_len, length-map-range_with_len}
use Rattle.std.proofs.lemmas.Simd.{bit_mask_l, mask_l-lt}
use Rattle.std.proofs.lemmas.Nat.Bits.{and_pow, bit_at_above, shr_and_one}
use Rattle.std.proofs.lemmas.Nat.{one_shl}
use Rattle.std.specs.Int.Bits.{bit_and, bit_or, or_add_and}
use Rattle.std.proofs.lemmas.Bool.Decides.{nat_tests}
use lib.Lanes.{mask_l}
use Rattle.cards.specs.declared.seat.Seat.{Seat}
use Rattle.cards.specs.declared.seat.Seat.TheVariants.{North, East, South, West}
use Rattle.cards.specs.Pack.{seat_number}
use Rattle.cards.specs.Shuffle.{pack}
use Rattle.cards.specs.Deals.{IsPartition}
use Rattle.cards.specs.Hands.{hand_of}
use Rattle.cards.specs.internal.Masks.{cards_of_mask, seat_mask, seat_in, seats_of_masks}

-- the bit of a card in a seat's mask
pub bit_at_seat : (deal : List Seat) (seat : Seat) (c : ℕ) → c < length deal
    → bit_at (seat_mask deal seat) c ≡ cond (seat_number (get_or deal c North) == seat_number seat) 1 0
bit_at_seat deal seat c h =
    bit_mask_l (hand_of deal seat) c
    ∙ ap (λ b. cond b 1 0) (get_or-map (λ holder. seat_number holder == seat_number seat) deal c North false h)

one_test : (b : Bool) → (cond b 1 0 == 1) ≡ b
one_test true = refl
one_test false = refl

chosen : (seat : Seat) → (if seat_number seat == seat_number North then North else if seat_number seat == seat_number
    East then East else if seat_number seat == seat_number South then South else West) ≡ seat
chosen North = refl
chosen x = refl

-- the masks of a deal give the deal
pub masks_of_seats : (deal : List Seat) → length deal ≡ 52 → seats_of_masks (seat_mask deal North) (seat_mask deal East) (seat_mask deal South) ≡ deal
unfolding seats_of_masks pack
masks_of_seats deal count =
    let seat : ℕ → Seat = seat_in (seat_mask deal North) (seat_mask deal East) (seat_mask deal South) in
    ext_get_or North (map seat (range_with_len 0 52)) deal (length-map-range_with_len seat 0 52 ∙ sym count)
    (λ i h.
    let below : i < 52 = rw (length-map-range_with_len seat 0 52) at h in
    let inside : i < length deal = rw count below in
    let test : (q : Seat) → (bit_at (seat_mask deal q) i == 1)
    ≡ (seat_number (get_or deal i North) == seat_number q) = λ q. ap (λ t. t == 1) (bit_at_seat deal q i inside)
    ∙ one_test (seat_number (get_or deal i North) == seat_number q) in
    get_or-map-range_with_len seat 0 52 i i North below (omega arith)
    ∙ rw (test North, test East, test South) (chosen (get_or deal i North)))

-- the cards of a seat's mask are the seat's
pub cards_of_seat : (deal : List Seat) (seat : Seat) → length deal ≡ 52 → cards_of_mask (seat_mask deal seat) ≡ hand_of deal seat
unfolding cards_of_mask pack
cards_of_seat deal seat count =
    let bit : ℕ → Bool = λ c. bit_at (seat_mask deal seat) c == 1 in
    let long : length (hand_of deal seat) ≡ 52 = simp length-map count in
    ext_get_or false (map bit (range_with_len 0 52)) (hand_of deal seat) (length-map-range_with_len bit 0 52 ∙ sym long)
    (λ i h.
    let below : i < 52 = rw (length-map-range_with_len bit 0 52) at h in
    get_or-map-range_with_len bit 0 52 i i false below (omega arith)
    ∙ ap (λ t. t == 1) (bit_mask_l (hand_of deal seat) i) ∙ one_test (get_or (hand_of deal seat) i false))

-- one more truth value
pub mask_push : (xs : List Bool) (b : Bool) → mask_l (xs ++ b ∷ []) ≡ mask_l xs + cond b (2 ^ length xs) 0
mask_push [] true = refl
mask_push [] false = refl
mask_push (x ∷ xs) true = omega (arith, mask_push xs true, pow-suc 2 (length xs))
mask_push (x ∷ xs) false = omega (arith, mask_push xs false)

-- a bit above all others
pub mask_more : (cards : List Bool) (i mask : ℕ) → i < length cards → mask ≡ mask_l (take i cards) → bit_or mask (2 ^ i) ≡ mask + 2 ^ i
mask_more cards i mask h e =
    let count : length (take i cards) ≡ i = simp length-take (omega arith) in
    let low : mask < 2 ^ i = rw e (rw count at (mask_l-lt (take i cards))) in
    let apart : bit_and mask (2 ^ i) ≡ 0 = and_pow mask i ∙ ap (λ b. b * 2 ^ i) (bit_at_above mask i i low (omega arith)) ∙ omega arith in
    omega (arith, or_add_and mask (2 ^ i), apart)

pub mask_step : (cards : List Bool) (i : ℕ) → i < length cards
    → mask_l (take (i + 1) cards) ≡ mask_l (take i cards) + cond (get_or cards i false) (2 ^ i) 0
mask_step cards i h =
    let count : length (take i cards) ≡ i = simp length-take (omega arith) in
    ap mask_l (take_more cards i false h) ∙ mask_push (take i cards) (get_or cards i false)
    ∙ ap (λ n. mask_l (take i cards) + cond (get_or cards i false) (2 ^ n) 0) count

pub seat_mask-lt : (deal : List Seat) (seat : Seat) → IsPartition deal → seat_mask deal seat < 2 ^ 52
seat_mask-lt deal seat ok =
    let long : length (hand_of deal seat) ≡ 52 = simp length-map ok.count in
    rw long at (mask_l-lt (hand_of deal seat))

pub masks_view : (deal : List Seat) (n e s : ℕ) → IsPartition deal → n ≡ seat_mask deal North
    → e ≡ seat_mask deal East → s ≡ seat_mask deal South → seats_of_masks n e s ≡ deal
masks_view deal n e s ok en ee es =
    ap (λ m. seats_of_masks m e s) en ∙ ap (λ m. seats_of_masks (seat_mask deal North) m s) ee
    ∙ ap (seats_of_masks (seat_mask deal North) (seat_mask deal East)) es ∙ masks_of_seats deal ok.count

pub holder_is : (n e s c : ℕ) (now : List Seat) → c < 52 → seats_of_masks n e s ≡ now → get_or now c North ≡ seat_in n e s c
unfolding seats_of_masks pack
holder_is n e s c now below view = ap (λ d. get_or d c North) (sym view)
    ∙ get_or-map-range_with_len (seat_in n e s) 0 52 c c North below (omega arith)

set_bit : (m k : ℕ) → bit_and (m / 2 ^ k) 1 ≡ 1 → (bit_at m k == 1) ≡ true
set_bit m k h = ap (λ t. t == 1) (sym (shr_and_one m k) ∙ h)

not_one : (x : ℕ) → (x ≡ 1 → ⊥) → (x == 1) ≡ false
not_one x h = grind (arith, nat_tests)

clear_bit : (m k : ℕ) → (bit_and (m / 2 ^ k) 1 ≡ 1 → ⊥) → (bit_at m k == 1) ≡ false
clear_bit m k h = not_one (bit_at m k) (λ e. h (shr_and_one m k ∙ e))

pub holder_north : (n e s k c : ℕ) (now : List Seat) → k ≡ c → c < 52 → seats_of_masks n e s ≡ now
    → bit_and (n / 2 ^ k) 1 ≡ 1 → North ≡ get_or now c North
holder_north n e s k c now same below view a =
    sym (holder_is n e s c now below view ∙ rw (← same, set_bit n k a) refl)

pub holder_east : (n e s k c : ℕ) (now : List Seat) → k ≡ c → c < 52 → seats_of_masks n e s ≡ now
    → (bit_and (n / 2 ^ k) 1 ≡ 1 → ⊥) → bit_and (e / 2 ^ k) 1 ≡ 1 → East ≡ get_or now c North
holder_east n e s k c now same below view a b =
    sym (holder_is n e s c now below view ∙ rw (← same, clear_bit n k a, set_bit e k b) refl)

pub holder_south : (n e s k c : ℕ) (now : List Seat) → k ≡ c → c < 52 → seats_of_masks n e s ≡ now
    → (bit_and (n / 2 ^ k) 1 ≡ 1 → ⊥) → (bit_and (e / 2 ^ k) 1 ≡ 1 → ⊥) → bit_and (s / 2 ^ k) 1 ≡ 1
    → South ≡ get_or now c North
holder_south n e s k c now same below view a b d =
    sym (holder_is n e s c now below view ∙ rw (← same, clear_bit n k a, clear_bit e k b, set_bit s k d) refl)

pub holder_west : (n e s k c : ℕ) (now : List Seat) → k ≡ c → c < 52 → seats_of_masks n e s ≡ now
    → (bit_and (n / 2 ^ k) 1 ≡ 1 → ⊥) → (bit_and (e / 2 ^ k) 1 ≡ 1 → ⊥) → (bit_and (s / 2 ^ k) 1 ≡ 1 → ⊥)
    → West ≡ get_or now c North
holder_west n e s k c now same below view a b d =
    sym (holder_is n e s c now below view ∙ rw (← same, clear_bit n k a, clear_bit e k b, clear_bit s k d) refl)

card_read : (deal : List Seat) (seat : Seat) (i : ℕ) → i < length deal
    → get_or (hand_of deal seat) i false ≡ (seat_number (get_or deal i North) == seat_number seat)
card_read deal seat i h = get_or-map (λ holder. seat_number holder == seat_number seat) deal i North false h

pub mask_held : (deal : List Seat) (seat : Seat) (i mask new : ℕ) → i < length deal → i < 64
    → mask ≡ mask_l (take i (hand_of deal seat)) → (seat_number (get_or deal i North) == seat_number seat) ≡ true
    → new ≡ bit_or mask (1 * 2 ^ i % 2 ^ 64) → new ≡ mask_l (take (i + 1) (hand_of deal seat))
mask_held deal seat i mask new h small e test is =
    let inside : i < length (hand_of deal seat) = simp length-map h in
    let held : cond (get_or (hand_of deal seat) i false) (2 ^ i) 0 ≡ 2 ^ i = ap (λ b. cond b (2 ^ i) 0) (card_read deal seat i h ∙ test) in
    let joined : bit_or mask (1 * 2 ^ i % 2 ^ 64) ≡ mask + 2 ^ i = ap (bit_or mask) (one_shl i 64 small)
    ∙ mask_more (hand_of deal seat) i mask inside e in
    omega (arith, is, joined, e, held, mask_step (hand_of deal seat) i inside)

pub mask_other : (deal : List Seat) (seat : Seat) (i mask new : ℕ) → i < length deal
    → mask ≡ mask_l (take i (hand_of deal seat)) → (seat_number (get_or deal i North) == seat_number seat) ≡ false
    → new ≡ mask → new ≡ mask_l (take (i + 1) (hand_of deal seat))
mask_other deal seat i mask new h e test is =
    let inside : i < length (hand_of deal seat) = simp length-map h in
    let none : cond (get_or (hand_of deal seat) i false) (2 ^ i) 0 ≡ 0 = ap (λ b. cond b (2 ^ i) 0) (card_read deal seat i h ∙ test) in
    omega (arith, is, e, none, mask_step (hand_of deal seat) i inside)
