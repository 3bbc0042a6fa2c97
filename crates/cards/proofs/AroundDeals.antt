-- The deal around fixed cards: a partition, with the masks of what is fixed and what is dealt.
use Rattle.std.proofs.Common.{◌≡◌, ℕ, zero, suc, ◌+◌, ◌-◌, ◌^◌, ◌<◌, ◌≤◌, ◌==◌, ◌&&◌, max, Bool, true, false}
use Rattle.std.proofs.Common.{cond, List, [], ◌∷◌, length, take, get_or, map, refl, sym, ap, ◌∙◌, arith, inl}
use Rattle.std.proofs.Common.{inr}
use Rattle.std.specs.Prelude.{Option, Some, None, nat_le, ltb, unwrap_or, if◌then◌else◌}
use Rattle.std.specs.List.{count_by}
use Rattle.std.proofs.lemmas.Bool.{cases_lt}
use Rattle.std.proofs.lemmas.Bool.Decides.{nat_tests}
use Rattle.std.proofs.lemmas.List.{get_or-map, length-map, take_all}
use Rattle.std.proofs.lemmas.List.FromFn.{get_or-map-range_with_len, length-map-range_with_len}
use Rattle.std.proofs.lemmas.Nat.{or_lt}
use Rattle.std.proofs.lemmas.Nat.Bits.{bit_at_or}
use Rattle.std.proofs.lemmas.Simd.{bit_mask_l, mask_l-lt}
use lib.Lanes.{mask_l}
use Rattle.std.specs.Int.{bit_at}
use Rattle.std.specs.Int.Bits.{bit_or}
use Rattle.std.proofs.lemmas.List.Sums.{sum_by-cons, count_by-le-length, count_by_more_no, count_by_more_yes}
use Rattle.std.proofs.lemmas.List.Sorted.{sum_by-IsPermutation}
use Rattle.cards.specs.declared.seat.Seat.{Seat}
use Rattle.cards.specs.declared.seat.Seat.TheVariants.{North, East, South, West}
use Rattle.cards.specs.Pack.{seat_number}
use Rattle.cards.specs.Shuffle.{card_at, pack}
use Rattle.cards.specs.Deals.{IsPartition, position_of}
use Rattle.cards.specs.Fixed.{IsFixed, dealt_around, free_count, free_index, held, is_fixed_at, is_free, open_seat, places_for, room, seat_around}
use Rattle.cards.specs.internal.Around.{fixed_at, fixed_mask, settles_within}
use Rattle.cards.specs.internal.Masks.{seat_mask}
use Rattle.cards.specs.internal.MaskBits.{bit_at_pack, mask-pack-lt, same_masks}
use Rattle.cards.proofs.DealMasks.{bit_at_seat, seat_mask-lt}
use Rattle.cards.proofs.Dealing.{position_of-card_at}
use Rattle.cards.proofs.Partitions.{positions_whole}
use Rattle.cards.proofs.FewPlaces.{are_places, is_less, isn't_less, position_above, position_below}
use Rattle.cards.proofs.FreeCards.{index_more, index_rises}
use Rattle.cards.proofs.Totals.{total, total_of_map, total_more, total_cut, total_same, total_of_interval}

-- each card is fixed at one seat, or free
pub all_held : (xs : List (Option Seat)) → count_by (is_fixed_at North) xs + count_by (is_fixed_at East) xs + count_by
    (is_fixed_at South) xs + count_by (is_fixed_at West) xs + count_by is_free xs ≡ length xs
all_held [] = refl
all_held (o ∷ xs) =
    omega (
      arith,
      all_held xs,
      counted_cons (is_fixed_at North) o xs,
      counted_cons (is_fixed_at East) o xs,
      counted_cons (is_fixed_at South) o xs,
      counted_cons (is_fixed_at West) o xs,
      counted_cons is_free o xs,
      one_of o,
    )
  where
    counted_cons : (p : Option Seat → Bool) (o : Option Seat) (xs : List (Option Seat)) → count_by p (o ∷ xs) ≡ cond (p o) 1 0 + count_by p xs
    counted_cons p o xs = sum_by-cons (λ x. cond (p x) 1 0) o xs

    one_of : (o : Option Seat) → cond (is_fixed_at North o) 1 0 + cond (is_fixed_at East o) 1 0 + cond
        (is_fixed_at South o) 1 0 + cond (is_fixed_at West o) 1 0 + cond (is_free o) 1 0 ≡ 1
    one_of None = refl
    one_of (Some North) = refl
    one_of (Some East) = refl
    one_of (Some South) = refl
    one_of (Some West) = refl

pub rooms_together : (fixed : List (Option Seat)) → IsFixed fixed
    → free_count fixed ≡ room fixed North + room fixed East + room fixed South + room fixed West
rooms_together fixed ok = omega (arith, all_held fixed, ok.count, ok.room North, ok.room East, ok.room South, ok.room West)

-- the first position of a seat's free cards
abbrev pub first_of : List (Option Seat) → Seat → ℕ
first_of fixed North = 0
first_of fixed East = room fixed North
first_of fixed South = room fixed North + room fixed East
first_of fixed West = room fixed North + room fixed East + room fixed South

-- the seat at a position, by how many each seat gets
abbrev chain : ℕ → ℕ → ℕ → ℕ → Seat
chain a b c p = if ltb p a then North else if ltb p (a + b) then East else if ltb p (a + b + c) then South else West

chain_north : (a b c p : ℕ) → p < a → chain a b c p ≡ North
chain_north a b c p h = rw (is_less p a h) refl

chain_east : (a b c p : ℕ) → a ≤ p → p < a + b → chain a b c p ≡ East
chain_east a b c p g h = rw (isn't_less p a g, is_less p (a + b) h) refl

chain_south : (a b c p : ℕ) → a + b ≤ p → p < a + b + c → chain a b c p ≡ South
chain_south a b c p g h = rw (isn't_less p a (omega arith), isn't_less p (a + b) g, is_less p (a + b + c) h) refl

chain_west : (a b c p : ℕ) → a + b + c ≤ p → chain a b c p ≡ West
chain_west a b c p g = rw (isn't_less p a (omega arith), isn't_less p (a + b) (omega arith), isn't_less p (a + b + c) g) refl

within_yes : (low high p : ℕ) → low ≤ p → p < high → (nat_le low p && ltb p high) ≡ true
within_yes low high p g h = grind (arith, nat_tests)

within_before : (low high p : ℕ) → p < low → (nat_le low p && ltb p high) ≡ false
within_before low high p h = grind (arith, nat_tests)

within_after : (low high p : ℕ) → high ≤ p → (nat_le low p && ltb p high) ≡ false
within_after low high p h = grind (arith, nat_tests)

chain_within : (a b c d p : ℕ) (low : Seat → ℕ) (size : Seat → ℕ) → low North ≡ 0 → low East ≡ a → low South ≡ a + b
    → low West ≡ a + b + c → size North ≡ a → size East ≡ b → size South ≡ c → size West ≡ d
    → p < a + b + c + d → (q : Seat) → (nat_le (low q) p && ltb p (low q + size q)) ≡ (seat_number (chain a b c p) == seat_number q)
chain_within a b c d p low size ln le ls lw sn se ss sw inside =
    elim (cases_lt p a) [
      | inl h ↦ λ q. rw (chain_north a b c p h) (at_north q h)
      | inr g ↦ elim (cases_lt p (a + b)) [
        | inl h ↦ λ q. rw (chain_east a b c p (omega arith) h) (at_east q (omega arith) h)
        | inr g ↦ elim (cases_lt p (a + b + c)) [
          | inl h ↦ λ q. rw (chain_south a b c p (omega arith) h) (at_south q (omega arith) h)
          | inr g ↦ λ q. rw (chain_west a b c p (omega arith)) (at_west q (omega arith))
        ]
      ]
    ]
  where
    at_north : (q : Seat) → p < a → (nat_le (low q) p && ltb p (low q + size q)) ≡ (seat_number North == seat_number q)
    at_north North h = within_yes (low North) (low North + size North) p (omega (arith, ln)) (omega (arith, ln, sn))
    at_north East h = within_before (low East) (low East + size East) p (omega (arith, le))
    at_north South h = within_before (low South) (low South + size South) p (omega (arith, ls))
    at_north West h = within_before (low West) (low West + size West) p (omega (arith, lw))

    at_east : (q : Seat) → a ≤ p → p < a + b → (nat_le (low q) p && ltb p (low q + size q)) ≡ (seat_number East == seat_number q)
    at_east North g h = within_after (low North) (low North + size North) p (omega (arith, ln, sn))
    at_east East g h = within_yes (low East) (low East + size East) p (omega (arith, le)) (omega (arith, le, se))
    at_east South g h = within_before (low South) (low South + size South) p (omega (arith, ls))
    at_east West g h = within_before (low West) (low West + size West) p (omega (arith, lw))

    at_south : (q : Seat) → a + b ≤ p → p < a + b + c → (nat_le (low q) p && ltb p (low q + size q)) ≡ (seat_number South == seat_number q)
    at_south North g h = within_after (low North) (low North + size North) p (omega (arith, ln, sn))
    at_south East g h = within_after (low East) (low East + size East) p (omega (arith, le, se))
    at_south South g h = within_yes (low South) (low South + size South) p (omega (arith, ls)) (omega (arith, ls, ss))
    at_south West g h = within_before (low West) (low West + size West) p (omega (arith, lw))

    at_west : (q : Seat) → a + b + c ≤ p → (nat_le (low q) p && ltb p (low q + size q)) ≡ (seat_number West == seat_number q)
    at_west North g = within_after (low North) (low North + size North) p (omega (arith, ln, sn))
    at_west East g = within_after (low East) (low East + size East) p (omega (arith, le, se))
    at_west South g = within_after (low South) (low South + size South) p (omega (arith, ls, ss))
    at_west West g = within_yes (low West) (low West + size West) p (omega (arith, lw)) (omega (arith, lw, sw))

-- a seat's positions are its own
pub seat_at_open : (fixed : List (Option Seat)) (p : ℕ) → IsFixed fixed → p < free_count fixed → (q : Seat)
    → (nat_le (first_of fixed q) p && ltb p (first_of fixed q + room fixed q)) ≡ (seat_number (open_seat fixed p) == seat_number q)
seat_at_open fixed p ok inside q =
    chain_within (room fixed North) (room fixed East) (room fixed South) (room fixed West) p (first_of fixed)
    (room fixed) refl refl refl refl refl refl refl refl
    (omega (arith, inside, rooms_together fixed ok)) q

-- 1 if the seat is q
abbrev one_if : Seat → Seat → ℕ
one_if q seat = cond (seat_number seat == seat_number q) 1 0

room_inside : (fixed : List (Option Seat)) → IsFixed fixed → (q : Seat) → first_of fixed q + room fixed q ≤ free_count fixed
room_inside fixed ok North = omega (arith, rooms_together fixed ok)
room_inside fixed ok x = omega (arith, rooms_together fixed ok)

-- as many positions are a seat's as it gets cards
open_seats_of : (fixed : List (Option Seat)) (q : Seat) → IsFixed fixed → total (λ p. one_if q (open_seat fixed p)) (free_count fixed) ≡ room fixed q
open_seats_of fixed q ok =
    total_of_interval (λ p. one_if q (open_seat fixed p)) (first_of fixed q) (room fixed q) (free_count fixed) (room_inside fixed ok q)
    (λ p h. ap (λ b. cond b 1 0) (sym (seat_at_open fixed p ok h q)))

pub few_free : (fixed : List (Option Seat)) → IsFixed fixed → free_count fixed ≤ 52
few_free fixed ok = omega (arith, ok.count, count_by-le-length is_free fixed)

-- the free cards' positions are the positions
positions_of_free : (fixed : List (Option Seat)) (x : ℕ) (h : ℕ → ℕ) → IsFixed fixed
    → total (λ i. h (position_of (places_for (free_count fixed) x) i)) (free_count fixed) ≡ total h (free_count fixed)
unfolding pack
positions_of_free fixed x h ok =
    let m : ℕ = free_count fixed in
    let places : List ℕ = places_for m x in
    let few : m ≤ 52 = few_free fixed ok in
    let k : ℕ → ℕ = λ p. cond (ltb p m) (h p) 0 in
    let moved : total (λ i. k (position_of places (card_at places i))) 52 ≡ total (λ i. k (position_of places i)) 52 =
    sym (total_of_map (λ c. k (position_of places c)) (card_at places) 52)
    ∙ sum_by-IsPermutation (λ c. k (position_of places c)) pack (map (card_at places) pack) (positions_whole places (are_places m x))
    ∙ total_of_map (λ c. k (position_of places c)) (λ i. i) 52 in
    let back : total (λ i. k (position_of places (card_at places i))) 52 ≡ total k 52 =
    total_same _ k 52 (λ i inside. ap k (position_of-card_at places i inside)) in
    sym (total_cut (λ i. k (position_of places i)) (λ i. h (position_of places i)) m 52 few
    (λ i inside. ap (λ b. cond b (h (position_of places i)) 0) (is_less (position_of places i) m (position_below m x i few inside)))
    (λ i above inside. ap (λ b. cond b (h (position_of places i)) 0)
    (isn't_less (position_of places i) m (omega (arith, position_above m x i few above inside)))))
    ∙ sym moved ∙ back
    ∙ total_cut k h m 52 few
    (λ i inside. ap (λ b. cond b (h i) 0) (is_less i m inside))
    (λ i above inside. ap (λ b. cond b (h i) 0) (isn't_less i m above))

-- the first n cards of a seat: those that are fixed there, and those of the free ones' positions
first_cards : (fixed : List (Option Seat)) (places : List ℕ) (q : Seat) (n : ℕ) → n ≤ length fixed
    → total (λ c. one_if q (seat_around fixed places c)) n ≡ count_by (is_fixed_at q) (take n fixed) + total
    (λ i. one_if q (open_seat fixed (position_of places i))) (free_index fixed n)
unfolding total
first_cards fixed places q zero inside = refl
first_cards fixed places q (suc n) inside = go (first_cards fixed places q n (omega arith)) (fixed_at fixed n) refl
  where
    t : ℕ → ℕ
    t = λ c. one_if q (seat_around fixed places c)

    g : ℕ → ℕ
    g = λ i. one_if q (open_seat fixed (position_of places i))

    e : suc n ≡ n + 1
    e = omega arith

    go : total t n ≡ count_by (is_fixed_at q) (take n fixed) + total g (free_index fixed n) → (o : Option Seat)
        → fixed_at fixed n ≡ o → total t n + t n ≡ count_by (is_fixed_at q) (take (suc n) fixed) + total g
        (free_index fixed (suc n))
    go before None is =
        let at : t n ≡ g (free_index fixed n) = ap (λ o. one_if q (unwrap_or o (open_seat fixed (position_of places (free_index fixed n))))) is in
        let more : free_index fixed (suc n) ≡ free_index fixed n + 1 = ap (free_index fixed) e
        ∙ index_more fixed n (omega arith) ∙ ap (λ o. free_index fixed n + cond (is_free o) 1 0) is in
        let same : count_by (is_fixed_at q) (take (suc n) fixed) ≡ count_by (is_fixed_at q) (take n fixed) =
        ap (λ k. count_by (is_fixed_at q) (take k fixed)) e
        ∙ count_by_more_no (is_fixed_at q) fixed n None (omega arith) (ap (is_fixed_at q) is) in
        omega (arith, before, at, same, ap (total g) more, total_more g (free_index fixed n))
    go before (Some seat) is =
        let at : t n ≡ one_if q seat = ap (λ o. one_if q (unwrap_or o (open_seat fixed (position_of places (free_index fixed n))))) is in
        let same : free_index fixed (suc n) ≡ free_index fixed n = ap (free_index fixed) e
        ∙ index_more fixed n (omega arith) ∙ ap (λ o. free_index fixed n + cond (is_free o) 1 0) is
        ∙ omega arith in
        omega (
          arith,
          before,
          at,
          ap (total g) same,
          ap (λ k. count_by (is_fixed_at q) (take k fixed)) e,
          held_more (seat_number seat == seat_number q) (ap (is_fixed_at q) is),
        )
      where
        held_more : (b : Bool) → is_fixed_at q (fixed_at fixed n) ≡ b
            → count_by (is_fixed_at q) (take (n + 1) fixed) ≡ count_by (is_fixed_at q) (take n fixed) + cond b 1 0
        held_more true h = count_by_more_yes (is_fixed_at q) fixed n None (omega arith) h
        held_more false h = count_by_more_no (is_fixed_at q) fixed n None (omega arith) h ∙ omega arith

-- the deal around fixed cards is a partition
pub around_is_partition : (fixed : List (Option Seat)) (x : ℕ) → IsFixed fixed → IsPartition (dealt_around fixed (places_for (free_count fixed) x))
unfolding dealt_around pack
around_is_partition fixed x ok =
    let places : List ℕ = places_for (free_count fixed) x in
    record {
      count = length-map-range_with_len (seat_around fixed places) 0 52;
      thirteen = λ q.
          let all : take 52 fixed ≡ fixed = take_all 52 fixed (omega (arith, ok.count)) in
          let some = first_cards fixed places q 52 (omega (arith, ok.count)) in
          let dealt : total (λ i. one_if q (open_seat fixed (position_of places i))) (free_index fixed 52) ≡ room fixed q =
          ap (λ xs. total (λ i. one_if q (open_seat fixed (position_of places i))) (count_by is_free xs)) all
          ∙ positions_of_free fixed x (λ p. one_if q (open_seat fixed p)) ok ∙ open_seats_of fixed q ok in
          total_of_map (one_if q) (seat_around fixed places) 52 ∙ omega (arith, some, dealt, ap (count_by (is_fixed_at q)) all, ok.room q);
    }

-- the index of a free card
free_index_below : (fixed : List (Option Seat)) (c : ℕ) → IsFixed fixed → c < 52 → is_free (fixed_at fixed c) ≡ true
    → free_index fixed c < free_count fixed
free_index_below fixed c ok h vacant =
    let e : c + 1 + (51 - c) ≡ 52 = omega arith in
    let all : free_index fixed 52 ≡ free_count fixed = ap (count_by is_free) (take_all 52 fixed (omega (arith, ok.count))) in
    let one : free_index fixed (c + 1) ≡ free_index fixed c + 1 = index_more fixed c (omega (arith, ok.count))
    ∙ ap (λ b. free_index fixed c + cond b 1 0) vacant in
    omega (arith, one, all, ap (free_index fixed) e, index_rises fixed (c + 1) (51 - c) (omega (arith, ok.count)))

max_zero : (a : ℕ) → max a 0 ≡ a
max_zero a = omega arith

zero_max : (a : ℕ) → max 0 a ≡ a
zero_max a = omega arith

-- a seat has the cards that are fixed there, and those of its positions
pub seat_mask_around : (fixed : List (Option Seat)) (x : ℕ) (q : Seat) (mask settled : ℕ) → IsFixed fixed → mask ≡ fixed_mask fixed q
    → settled ≡ mask_l (map (settles_within fixed (places_for (free_count fixed) x) (first_of fixed q) (first_of fixed q + room fixed q)) pack)
    → bit_or mask settled ≡ seat_mask (dealt_around fixed (places_for (free_count fixed) x)) q
unfolding dealt_around pack
seat_mask_around fixed x q mask settled ok held is =
    let places : List ℕ = places_for (free_count fixed) x in
    let deal : List Seat = dealt_around fixed places in
    let whole = around_is_partition fixed x ok in
    let long : length (map (is_fixed_at q) fixed) ≡ 52 = simp length-map ok.count in
    let low : mask < 2 ^ 52 = rw held (rw long at (mask_l-lt (map (is_fixed_at q) fixed))) in
    let within : ℕ → Bool = settles_within fixed places (first_of fixed q) (first_of fixed q + room fixed q) in
    let low' : settled < 2 ^ 52 = rw is (mask-pack-lt within) in
    same_masks (bit_or mask settled) (seat_mask deal q) (or_lt 52 mask settled low low') (seat_mask-lt deal q whole)
    (λ c h.
    let fixed_bit : bit_at mask c ≡ cond (is_fixed_at q (fixed_at fixed c)) 1 0 = ap (λ m. bit_at m c) held
    ∙ bit_mask_l (map (is_fixed_at q) fixed) c ∙ ap (λ b. cond b 1 0)
    (get_or-map (is_fixed_at q) fixed c None false (omega (arith, ok.count))) in
    let dealt_bit : bit_at settled c ≡ cond (within c) 1 0 = ap (λ m. bit_at m c) is ∙ bit_at_pack within c h in
    let seat : get_or deal c North ≡ seat_around fixed places c =
    get_or-map-range_with_len (seat_around fixed places) 0 52 c c North h (omega arith) in
    bit_at_or mask settled c ∙ rw (fixed_bit, dealt_bit) (go c h (fixed_at fixed c) refl)
    ∙ ap (one_if q) (sym seat) ∙ sym (bit_at_seat deal q c (rw whole.count h)))
  where
    go : (c : ℕ) → c < 52 → (o : Option Seat) → fixed_at fixed c ≡ o
        → max (cond (is_fixed_at q (fixed_at fixed c)) 1 0)
        (cond (settles_within fixed (places_for (free_count fixed) x) (first_of fixed q)
        (first_of fixed q + room fixed q) c) 1 0) ≡ one_if q (seat_around fixed (places_for (free_count fixed) x) c)
    go c h None e =
        let p : ℕ = position_of (places_for (free_count fixed) x) (free_index fixed c) in
        let below : p < free_count fixed = position_below (free_count fixed) x (free_index fixed c)
        (few_free fixed ok) (free_index_below fixed c ok h (ap is_free e)) in
        rw (e) (zero_max _ ∙ ap (λ b. cond b 1 0) (seat_at_open fixed p ok below q))
    go c h (Some seat) e = rw (e) (max_zero _)
