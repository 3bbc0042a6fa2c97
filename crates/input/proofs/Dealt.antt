-- The value that games write for a deal is spelled as that deal.
use Rattle.std.proofs.Common.{◌≡◌, ◌≢◌, ◌∙◌, ◌<◌, ◌≤◌, ℕ, zero, suc, ◌+◌, ◌*◌, ◌/◌, ◌%◌, ◌==◌, Bool, true, false}
use Rattle.std.proofs.Common.{List, [], ◌∷◌, ◌++◌, map, get_or, length, Option, None, Some, ap, append_assoc, arith}
use Rattle.std.proofs.Common.{refl, sym, subst, codes}
use Rattle.std.specs.Prelude.{filter, replicate, nat_lt, slice_index, slice_set, if◌then◌else◌}
use Rattle.std.specs.List.{list_all, range_with_len}
use Rattle.std.proofs.lemmas.Bool.{and_right, eq-eqb, eqb-false, eqb-true, lt-ltb, ltb-false, ltb-true, ne_eqb}
use Rattle.std.proofs.lemmas.Bool.Decides.{nat_tests}
use Rattle.std.proofs.lemmas.List.{ext_get_or, get_or-map, get_or-set_other, get_or-set_same, length-map, length-set}
use Rattle.std.proofs.lemmas.List.FromFn.{get_or-map-range_with_len, get_or-range_with_len, length-map-range_with_len}
use Rattle.boards.specs.Letters.{letters, suit_letters}
use Rattle.cards.specs.declared.seat.Seat.{Seat}
use Rattle.cards.specs.declared.seat.Seat.TheVariants.{North, East, South, West}
use Rattle.std.proofs.lemmas.List.{append-nil, get_or-replicate, length-append}
use Rattle.std.proofs.Math.ListN.{get_or-eq_default}
use Rattle.std.proofs.lemmas.List.Folds.{list_all-append}
use Rattle.std.proofs.lemmas.List.Sums.{count_by-le-length, length-filter}
use Rattle.std.proofs.lemmas.List.FromFn.{length-range_with_len}
use Rattle.input.specs.internal.TagTexts.{is_plain}
use Rattle.cards.specs.Deals.{IsPartition}
use Rattle.cards.specs.Hands.{hand_of, holds_card}
use Rattle.cards.specs.Pack.{seat_number, seat_of_number}
use Rattle.pbn_text.specs.Games.{deal_text}
use Rattle.input.specs.DealValues.{deal_in, given, gives, none_given, rank_in, seat_in, separator, whole}
use Rattle.input.specs.Values.{dealer_in}
use Rattle.input.proofs.Partitions.{all_some, passes, seats_again}

-- ---- letters

ranks_are : map rank_in letters ≡ range_with_len 0 13
unfolding rank_in
ranks_are = refl

zero_more : (r : ℕ) → 0 + r ≡ r
zero_more r = omega arith

letter_rank : (r : ℕ) → r < 13 → rank_in (slice_index letters r) ≡ r
letter_rank r below =
    sym (get_or-map rank_in letters r 0 0 (omega arith)) ∙ ap (λ l. get_or l r 0) ranks_are ∙ get_or-range_with_len 0 13 r 0 below ∙ zero_more r

no_letter : (last : Bool) → rank_in (if last then 32 else 46) ≡ 13
unfolding rank_in
no_letter true = refl
no_letter false = refl

not_separator : (r p : ℕ) → r < 13 → (slice_index letters r == separator p) ≡ false
not_separator r p below = ne_eqb (slice_index letters r) (separator p)
    (λ e. let same : r ≡ 13 = sym (letter_rank r below) ∙ ap rank_in e ∙ no_letter (p % 4 == 3) in omega arith)

-- ---- the cards in the order in which they are written

-- card c is written as this one of 208 places, a place for each rank of each part
abbrev pub place : List Seat → ℕ → ℕ
place deal c = 13 * (4 * seat_number (get_or deal c North) + c / 13) + c % 13

-- what was written of card c up to place k
abbrev written_at : List Seat → ℕ → ℕ → Option Seat
written_at deal k c = if nat_lt (place deal c) k then Some (get_or deal c North) else None

abbrev pub written : List Seat → ℕ → List (Option Seat)
written deal k = map (written_at deal k) (range_with_len 0 52)

few_seats : (seat : Seat) → seat_number seat < 4
few_seats North = omega arith
few_seats x = omega arith

one_place : (deal : List Seat) (i c : ℕ) → i < 52 → c < 52 → place deal i ≡ place deal c → i ≡ c
one_place deal i c below also same =
    let few = few_seats (get_or deal i North) in
    let fewer = few_seats (get_or deal c North) in
    omega (arith, same, few, fewer)

lt_more : (n k : ℕ) → n ≢ k → nat_lt n (k + 1) ≡ nat_lt n k
lt_more n k other = grind (arith, nat_tests)

lt_same : (k : ℕ) → nat_lt k k ≡ false
lt_same k = grind (arith, nat_tests)

other_kept : (deal : List Seat) (k i : ℕ) → place deal i ≢ k → written_at deal (k + 1) i ≡ written_at deal k i
other_kept deal k i other = rw (lt_more (place deal i) k other) refl

-- ---- a card

written_length : (deal : List Seat) (k : ℕ) → length (written deal k) ≡ 52
written_length deal k = length-map-range_with_len (written_at deal k) 0 52

read_at : (deal : List Seat) (k c : ℕ) → c < 52 → get_or (written deal k) c None ≡ written_at deal k c
read_at deal k c below = get_or-map-range_with_len (written_at deal k) 0 52 c c None below (zero_more c)

held_by : (deal : List Seat) (seat : Seat) (c : ℕ) → c < length deal
    → holds_card (hand_of deal seat) c ≡ (seat_number (get_or deal c North) == seat_number seat)
held_by deal seat c below = get_or-map (λ holder. seat_number holder == seat_number seat) deal c North false below

-- nothing is written at a place without a card
unwritten : (deal : List Seat) (k : ℕ) → ((i : ℕ) → i < 52 → place deal i ≢ k) → written deal (k + 1) ≡ written deal k
unwritten deal k none = ext_get_or None (written deal (k + 1)) (written deal k) (written_length deal (k + 1) ∙ sym (written_length deal k))
    (λ i below. let few : i < 52 = rw (written_length deal (k + 1)) at below in read_at deal (k + 1) i few
    ∙ other_kept deal k i (none i few) ∙ sym (read_at deal k i few))

-- the card at place k is written
card_given : (deal : List Seat) (k c : ℕ) (seat : Seat) → c < 52 → place deal c ≡ k → get_or deal c North ≡ seat
    → given (written deal k) c seat ≡ Some (written deal (k + 1))
card_given deal k c seat below at_k holder = rw (read_at deal k c below, before) (ap (λ l. Some l) same)
  where
    before : written_at deal k c ≡ None
    before = rw (at_k, lt_same k) refl

    after_it : written_at deal (k + 1) c ≡ Some seat
    after_it = let less : nat_lt (place deal c) (k + 1) ≡ true = lt-ltb (place deal c) (k + 1) (omega (arith, at_k)) in rw (less, holder) refl

    counted : length (slice_set (written deal k) c (Some seat)) ≡ length (written deal (k + 1))
    counted = length-set (written deal k) c (Some seat) ∙ written_length deal k ∙ sym (written_length deal (k + 1))

    by_card : (i : ℕ) → i < 52 → (b : Bool) → (i == c) ≡ b → get_or (slice_set (written deal k) c (Some seat)) i None ≡ written_at deal (k + 1) i
    by_card i few true e =
        let is : i ≡ c = eqb-true i c e in
        rw is (get_or-set_same (written deal k) c (Some seat) None (omega (arith, below, written_length deal k)) ∙ sym after_it)
    by_card i few false e =
        let other : i ≢ c = eqb-false i c e in
        get_or-set_other (written deal k) c i (Some seat) None other ∙ read_at deal k i few
        ∙ sym (other_kept deal k i (λ same. other (one_place deal i c few below (same ∙ sym at_k))))

    same : slice_set (written deal k) c (Some seat) ≡ written deal (k + 1)
    same = ext_get_or None (slice_set (written deal k) c (Some seat)) (written deal (k + 1)) counted
        (λ i few. let less : i < 52 = omega (arith, few, counted, written_length deal (k + 1)) in
        by_card i less (i == c) refl ∙ sym (read_at deal (k + 1) i less))

-- ---- the cards of a part

pub record IsPart (p q : ℕ) (seat : Seat) : Type 0 where
  pub suit : p % 4 ≡ q
  pub holder : seat_in North p ≡ seat
  pub number : p ≡ 4 * seat_number seat + q
  pub few : q < 4

seat_again : (seat : Seat) → seat_of_number (seat_number seat) ≡ seat
seat_again North = refl
seat_again x = refl

same_seat : (a b : Seat) → seat_number a ≡ seat_number b → a ≡ b
same_seat a b e = sym (seat_again a) ∙ ap seat_of_number e ∙ seat_again b

-- what is at a place of the part
which_card : (deal : List Seat) (p q r i : ℕ) (seat : Seat) → IsPart p q seat → r < 13 → i < 52 → place deal i ≡ 13 * p + r → i ≡ 13 * q + r
which_card deal p q r i seat part below few is =
    let a = few_seats (get_or deal i North) in
    let b = few_seats seat in
    omega (arith, part.number, part.few, a, b, is)

whose_card : (deal : List Seat) (p q r i : ℕ) (seat : Seat) → IsPart p q seat → r < 13 → i < 52
    → place deal i ≡ 13 * p + r → seat_number (get_or deal i North) ≡ seat_number seat
whose_card deal p q r i seat part below few is =
    let a = few_seats (get_or deal i North) in
    let b = few_seats seat in
    omega (arith, part.number, part.few, a, b, is)

its_place : (deal : List Seat) (p q r : ℕ) (seat : Seat) → IsPart p q seat → r < 13
    → seat_number (get_or deal (13 * q + r) North) ≡ seat_number seat → place deal (13 * q + r) ≡ 13 * p + r
its_place deal p q r seat part below is = omega (arith, part.number, part.few, is)

abbrev pub part_from : List Seat → Seat → (q r n : ℕ) → List ℕ
part_from deal seat q r n = map (slice_index letters) (filter (λ rank. holds_card (hand_of deal seat) (13 * q + rank)) (range_with_len r n))

module _ (deal : List Seat) (count : length deal ≡ 52) (p q : ℕ) (seat : Seat) (part : IsPart p q seat) where
  part_step : (r n : ℕ) (rest : List ℕ) → r + suc n ≡ 13
      → gives North p (written deal (13 * p + r + 1)) (part_from deal seat q (r + 1) n ++ rest) ≡ gives North p
      (written deal (13 * p + 13)) rest
      → gives North p (written deal (13 * p + r)) (part_from deal seat q r (suc n) ++ rest) ≡ gives North p (written deal (13 * p + 13)) rest
  part_step r n rest all next = by_held (holds_card (hand_of deal seat) (13 * q + r)) refl
    where
      below : r < 13
      below = omega (arith, all)

      card : 13 * q + r < 52
      card = omega (arith, part.few, below)

      held_as : holds_card (hand_of deal seat) (13 * q + r) ≡ (seat_number (get_or deal (13 * q + r) North) == seat_number seat)
      held_as = held_by deal seat (13 * q + r) (omega (arith, card, count))

      by_held : (b : Bool) → holds_card (hand_of deal seat) (13 * q + r) ≡ b
          → gives North p (written deal (13 * p + r)) (part_from deal seat q r (suc n) ++ rest) ≡ gives North p
          (written deal (13 * p + 13)) rest
      by_held true e =
          let number : seat_number (get_or deal (13 * q + r) North) ≡ seat_number seat = eqb-true _ _ (sym held_as ∙ e) in
          let put = card_given deal (13 * p + r) (13 * q + r) seat card (its_place deal p q r seat part below number) (same_seat _ seat number) in
          rw (e, and_right (nat_lt p 15) _ (not_separator r p below), letter_rank r below, lt-ltb r 13 below, part.suit, part.holder, put) next
      by_held false e =
          let none : (i : ℕ) → i < 52 → place deal i ≢ 13 * p + r =
          λ i few at_k. let is = which_card deal p q r i seat part below few at_k in
          let number : seat_number (get_or deal (13 * q + r) North) ≡ seat_number seat =
          subst (λ j. seat_number (get_or deal j North) ≡ seat_number seat) is
          (whose_card deal p q r i seat part below few at_k) in
          let held : holds_card (hand_of deal seat) (13 * q + r) ≡ true = held_as ∙ eq-eqb _ _ number in
          let bad : true ≡ false = sym held ∙ e in cc in
          rw (e, ← unwritten deal (13 * p + r) none) next

  pub part_read : (r n : ℕ) (rest : List ℕ) → r + n ≡ 13
      → gives North p (written deal (13 * p + r)) (part_from deal seat q r n ++ rest) ≡ gives North p (written deal (13 * p + 13)) rest
  part_read r zero rest all = let e : r ≡ 13 = omega (arith, all) in rw e refl
  part_read r (suc n) rest all =
      part_step r n rest all (ap (λ k. gives North p (written deal k) (part_from deal seat q (r + 1) n ++ rest))
      (omega arith) ∙ part_read (r + 1) n rest (omega (arith, all)))

-- ---- the deal

none_yet : (deal : List Seat) (cards : List ℕ) → map (written_at deal 0) cards ≡ replicate (length cards) None
none_yet deal [] = refl
none_yet deal (c ∷ cards) = let no : nat_lt (place deal c) 0 ≡ false = grind (arith, nat_tests) in rw (no, none_yet deal cards) refl

at_first : (deal : List Seat) → written deal 0 ≡ none_given
at_first deal = none_yet deal (range_with_len 0 52)

at_last : (deal : List Seat) → length deal ≡ 52 → written deal 208 ≡ map (λ seat. Some seat) deal
at_last deal count = ext_get_or None (written deal 208) (map (λ seat. Some seat) deal) (written_length deal 208 ∙ sym count ∙ sym (length-map _ _))
    (λ c below.
    let few : c < 52 = rw (written_length deal 208) at below in
    let seats = few_seats (get_or deal c North) in
    let less : nat_lt (place deal c) 208 ≡ true = lt-ltb (place deal c) 208 (omega (arith, few, seats)) in
    let all : written_at deal 208 c ≡ Some (get_or deal c North) = rw less refl in
    read_at deal 208 c few ∙ all ∙ sym (get_or-map (λ seat. Some seat) deal c North None (omega (arith, few, count))))

-- the parts, one after another
nested : (t0 t1 t2 t3 t4 t5 t6 t7 t8 t9 t10 t11 t12 t13 t14 t15 : List ℕ)
    → codes "N:" ++ (t0 ++ codes "." ++ t1 ++ codes "." ++ t2 ++ codes "." ++ t3) ++ codes " "
    ++ (t4 ++ codes "." ++ t5 ++ codes "." ++ t6 ++ codes "." ++ t7) ++ codes " "
    ++ (t8 ++ codes "." ++ t9 ++ codes "." ++ t10 ++ codes "." ++ t11) ++ codes " "
    ++ (t12 ++ codes "." ++ t13 ++ codes "." ++ t14 ++ codes "." ++ t15)
    ≡ 78 ∷ 58 ∷ (t0 ++ 46 ∷ (t1 ++ 46 ∷ (t2 ++ 46 ∷ (t3 ++ 32
    ∷ (t4 ++ 46 ∷ (t5 ++ 46 ∷ (t6 ++ 46 ∷ (t7 ++ 32 ∷ (t8
    ++ 46 ∷ (t9 ++ 46 ∷ (t10 ++ 46 ∷ (t11 ++ 32 ∷ (t12 ++ 46 ∷ (t13 ++ 46 ∷ (t14 ++ 46 ∷ (t15))))))))))))))))
nested t0 t1 t2 t3 t4 t5 t6 t7 t8 t9 t10 t11 t12 t13 t14 t15 = simp append_assoc refl

-- a part, and what is after it
abbrev part : List Seat → Seat → ℕ → List ℕ
part deal seat q = part_from deal seat q 0 13

abbrev after_14 : List Seat → List ℕ
after_14 deal = part deal West 3 ++ []

abbrev after_13 : List Seat → List ℕ
after_13 deal = part deal West 2 ++ 46 ∷ after_14 deal

abbrev after_12 : List Seat → List ℕ
after_12 deal = part deal West 1 ++ 46 ∷ after_13 deal

abbrev after_11 : List Seat → List ℕ
after_11 deal = part deal West 0 ++ 46 ∷ after_12 deal

abbrev after_10 : List Seat → List ℕ
after_10 deal = part deal South 3 ++ 32 ∷ after_11 deal

abbrev after_9 : List Seat → List ℕ
after_9 deal = part deal South 2 ++ 46 ∷ after_10 deal

abbrev after_8 : List Seat → List ℕ
after_8 deal = part deal South 1 ++ 46 ∷ after_9 deal

abbrev after_7 : List Seat → List ℕ
after_7 deal = part deal South 0 ++ 46 ∷ after_8 deal

abbrev after_6 : List Seat → List ℕ
after_6 deal = part deal East 3 ++ 32 ∷ after_7 deal

abbrev after_5 : List Seat → List ℕ
after_5 deal = part deal East 2 ++ 46 ∷ after_6 deal

abbrev after_4 : List Seat → List ℕ
after_4 deal = part deal East 1 ++ 46 ∷ after_5 deal

abbrev after_3 : List Seat → List ℕ
after_3 deal = part deal East 0 ++ 46 ∷ after_4 deal

abbrev after_2 : List Seat → List ℕ
after_2 deal = part deal North 3 ++ 32 ∷ after_3 deal

abbrev after_1 : List Seat → List ℕ
after_1 deal = part deal North 2 ++ 46 ∷ after_2 deal

abbrev after_0 : List Seat → List ℕ
after_0 deal = part deal North 1 ++ 46 ∷ after_1 deal

abbrev all_parts : List Seat → List ℕ
all_parts deal = part deal North 0 ++ 46 ∷ after_0 deal

all_read : (deal : List Seat) → length deal ≡ 52 → gives North 0 (written deal 0) (all_parts deal) ≡ Some (written deal 208)
all_read deal count =
    part_read deal count 0 0 North (record { suit = refl; holder = refl; number = refl; few = omega arith }) 0 13 (46 ∷ after_0 deal) refl
    ∙ part_read deal count 1 1 North (record { suit = refl; holder = refl; number = refl; few = omega arith }) 0 13 (46 ∷ after_1 deal) refl
    ∙ part_read deal count 2 2 North (record { suit = refl; holder = refl; number = refl; few = omega arith }) 0 13 (46 ∷ after_2 deal) refl
    ∙ part_read deal count 3 3 North (record { suit = refl; holder = refl; number = refl; few = omega arith }) 0 13 (32 ∷ after_3 deal) refl
    ∙ part_read deal count 4 0 East (record { suit = refl; holder = refl; number = refl; few = omega arith }) 0 13 (46 ∷ after_4 deal) refl
    ∙ part_read deal count 5 1 East (record { suit = refl; holder = refl; number = refl; few = omega arith }) 0 13 (46 ∷ after_5 deal) refl
    ∙ part_read deal count 6 2 East (record { suit = refl; holder = refl; number = refl; few = omega arith }) 0 13 (46 ∷ after_6 deal) refl
    ∙ part_read deal count 7 3 East (record { suit = refl; holder = refl; number = refl; few = omega arith }) 0 13 (32 ∷ after_7 deal) refl
    ∙ part_read deal count 8 0 South (record { suit = refl; holder = refl; number = refl; few = omega arith }) 0 13 (46 ∷ after_8 deal) refl
    ∙ part_read deal count 9 1 South (record { suit = refl; holder = refl; number = refl; few = omega arith }) 0 13 (46 ∷ after_9 deal) refl
    ∙ part_read deal count 10 2 South (record { suit = refl; holder = refl; number = refl; few = omega arith }) 0 13 (46 ∷ after_10 deal) refl
    ∙ part_read deal count 11 3 South (record { suit = refl; holder = refl; number = refl; few = omega arith }) 0 13 (32 ∷ after_11 deal) refl
    ∙ part_read deal count 12 0 West (record { suit = refl; holder = refl; number = refl; few = omega arith }) 0 13 (46 ∷ after_12 deal) refl
    ∙ part_read deal count 13 1 West (record { suit = refl; holder = refl; number = refl; few = omega arith }) 0 13 (46 ∷ after_13 deal) refl
    ∙ part_read deal count 14 2 West (record { suit = refl; holder = refl; number = refl; few = omega arith }) 0 13 (46 ∷ after_14 deal) refl
    ∙ part_read deal count 15 3 West (record { suit = refl; holder = refl; number = refl; few = omega arith }) 0 13 [] refl

parts_are : (deal : List Seat) → deal_text deal ≡ 78 ∷ 58 ∷ all_parts deal
unfolding suit_letters
parts_are deal =
    nested (part deal North 0) (part deal North 1) (part deal North 2) (part deal North 3) (part deal East 0)
    (part deal East 1) (part deal East 2) (part deal East 3) (part deal South 0) (part deal South 1)
    (part deal South 2) (part deal South 3) (part deal West 0) (part deal West 1) (part deal West 2)
    (part deal West 3)
    ∙ ap (λ l. 78 ∷ 58 ∷ (part deal North 0 ++ 46 ∷ (part deal North 1
    ++ 46 ∷ (part deal North 2 ++ 46 ∷ (part deal North 3
    ++ 32 ∷ (part deal East 0 ++ 46 ∷ (part deal East 1 ++ 46
    ∷ (part deal East 2 ++ 46 ∷ (part deal East 3 ++ 32 ∷
    (part deal South 0 ++ 46 ∷ (part deal South 1 ++ 46 ∷
    (part deal South 2 ++ 46 ∷ (part deal South 3 ++ 32 ∷
    (part deal West 0 ++ 46 ∷ (part deal West 1 ++ 46 ∷ (part deal West 2 ++ 46 ∷ (l)))))))))))))))))
    (sym (append-nil (part deal West 3)))

pub deal_again : (deal : List Seat) → IsPartition deal → deal_in (deal_text deal) ≡ Some deal
unfolding deal_in dealer_in
deal_again deal p =
    let read : gives North 0 none_given (all_parts deal) ≡ Some (map (λ seat. Some seat) deal) =
    ap (λ seats. gives North 0 seats (all_parts deal)) (sym (at_first deal)) ∙ all_read deal p.count
    ∙ ap (λ seats. Some seats) (at_last deal p.count) in
    ap deal_in (parts_are deal) ∙ ap whole read ∙ rw (all_some deal, seats_again deal, passes deal p) refl

-- ---- its bytes

plain_letter : (r : ℕ) → is_plain (slice_index letters r) ≡ true
plain_letter r = by_rank (nat_lt r 13) refl
  where
    letters_plain : map is_plain letters ≡ replicate 13 true
    letters_plain = refl

    by_rank : (b : Bool) → nat_lt r 13 ≡ b → is_plain (slice_index letters r) ≡ true
    by_rank true e = let below : r < 13 = ltb-true r 13 e in sym (get_or-map is_plain letters r 0 false below)
        ∙ ap (λ l. get_or l r false) letters_plain ∙ get_or-replicate 13 r true false below
    by_rank false e = let none : slice_index letters r ≡ 0 = get_or-eq_default letters 0 (ltb-false r 13 e) in rw none refl

plain_letters : (ranks : List ℕ) → list_all is_plain (map (slice_index letters) ranks) ≡ true
plain_letters [] = refl
plain_letters (r ∷ ranks) = rw (plain_letter r) (plain_letters ranks)

part_plain : (deal : List Seat) (seat : Seat) (q : ℕ) → list_all is_plain (part deal seat q) ≡ true
part_plain deal seat q = plain_letters (filter (λ rank. holds_card (hand_of deal seat) (13 * q + rank)) (range_with_len 0 13))

part_short : (deal : List Seat) (seat : Seat) (q : ℕ) → length (part deal seat q) ≤ 13
part_short deal seat q =
    let test : ℕ → Bool = λ rank. holds_card (hand_of deal seat) (13 * q + rank) in
    let few = count_by-le-length test (range_with_len 0 13) in
    let letter_count : length (part deal seat q) ≡ length (filter test (range_with_len 0 13)) = length-map _ _ in
    omega (arith, few, letter_count, length-filter test (range_with_len 0 13), length-range_with_len 0 13)

-- a part, a separator that stands for itself, and what is after it
abbrev IsShown : ℕ → List ℕ → Type 0
IsShown most text = (list_all is_plain text ≡ true) × (length text ≤ most)

and_then : (deal : List Seat) (seat : Seat) (q b most : ℕ) (later : List ℕ) → is_plain b ≡ true → IsShown most later
    → IsShown (most + 14) (part deal seat q ++ b ∷ later)
and_then deal seat q b most later plain shown = (
  list_all-append is_plain (part deal seat q) (b ∷ later) ∙ rw (part_plain deal seat q, plain, shown.0) refl,
  omega (arith, length-append (part deal seat q) (b ∷ later), part_short deal seat q, shown.1),
)

all_shown : (deal : List Seat) → IsShown 223 (all_parts deal)
all_shown deal =
    let s_15 : IsShown 13 (after_14 deal) = (
      list_all-append is_plain (part deal West 3) []
          ∙ rw (part_plain deal West 3) refl,
      omega (
        arith,
        length-append (part deal West 3) [],
        part_short deal West 3,
      ),
    ) in
    let s_14 : IsShown 27 (after_13 deal) = and_then deal West 2 46 13 (after_14 deal) refl s_15 in
    let s_13 : IsShown 41 (after_12 deal) = and_then deal West 1 46 27 (after_13 deal) refl s_14 in
    let s_12 : IsShown 55 (after_11 deal) = and_then deal West 0 46 41 (after_12 deal) refl s_13 in
    let s_11 : IsShown 69 (after_10 deal) = and_then deal South 3 32 55 (after_11 deal) refl s_12 in
    let s_10 : IsShown 83 (after_9 deal) = and_then deal South 2 46 69 (after_10 deal) refl s_11 in
    let s_9 : IsShown 97 (after_8 deal) = and_then deal South 1 46 83 (after_9 deal) refl s_10 in
    let s_8 : IsShown 111 (after_7 deal) = and_then deal South 0 46 97 (after_8 deal) refl s_9 in
    let s_7 : IsShown 125 (after_6 deal) = and_then deal East 3 32 111 (after_7 deal) refl s_8 in
    let s_6 : IsShown 139 (after_5 deal) = and_then deal East 2 46 125 (after_6 deal) refl s_7 in
    let s_5 : IsShown 153 (after_4 deal) = and_then deal East 1 46 139 (after_5 deal) refl s_6 in
    let s_4 : IsShown 167 (after_3 deal) = and_then deal East 0 46 153 (after_4 deal) refl s_5 in
    let s_3 : IsShown 181 (after_2 deal) = and_then deal North 3 32 167 (after_3 deal) refl s_4 in
    let s_2 : IsShown 195 (after_1 deal) = and_then deal North 2 46 181 (after_2 deal) refl s_3 in
    let s_1 : IsShown 209 (after_0 deal) = and_then deal North 1 46 195 (after_1 deal) refl s_2 in
    let s_0 : IsShown 223 (all_parts deal) = and_then deal North 0 46 209 (after_0 deal) refl s_1 in
    s_0

pub deal_shown : (deal : List Seat) → IsShown 225 (deal_text deal)
deal_shown deal =
    let all = all_shown deal in
    let shown : IsShown 225 (78 ∷ 58 ∷ all_parts deal) = (all.0, omega (arith, all.1)) in
    subst (IsShown 225) (sym (parts_are deal)) shown
