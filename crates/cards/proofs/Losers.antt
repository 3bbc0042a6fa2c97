-- The losers of a suit are the cards that count less those of them that the hand has.
use Rattle.std.proofs.Common.{◌≡◌, ℕ, ◌+◌, ◌*◌, ◌-◌, ◌/◌, ◌%◌, ◌^◌, ◌<◌, ◌==◌, min, not, Bool, true, false, cond}
use Rattle.std.proofs.Common.{List, [], ◌∷◌, length, map, refl, sym, ◌∙◌, ap, arith}
use Rattle.std.specs.Int.{bit_at}
use Rattle.std.specs.Int.RustNames.{bit_and, count_ones}
use Rattle.std.specs.List.{count_by, range_with_len}
use Rattle.std.proofs.lemmas.List.FromFn.{get_or-map-range_with_len, length-range_with_len, length-map-range_with_len}
use Rattle.std.proofs.lemmas.List.Sums.{sum_by-cons}
use Rattle.std.proofs.lemmas.Nat.{and_le_r, pow_pos, one_shl}
use Rattle.std.proofs.lemmas.Nat.Bits.{same_from_bits_below, bit_at-lt, bit_at_and, bit_at_ones}
use Rattle.std.proofs.lemmas.Simd.{ones-mask_l, mask_l-lt, bit_mask_l}
use lib.Lanes.{mask_l}
use Rattle.cards.specs.declared.suit.Suit.{Suit}
use Rattle.cards.specs.Pack.{suit_number}
use Rattle.cards.specs.Hands.{holds_card, length_of}
use Rattle.cards.specs.Counts.{losers_in}
use Rattle.cards.specs.internal.Masks.{cards_of_mask}
use Rattle.cards.specs.internal.MaskBits.{test_bit}
use Rattle.cards.proofs.MaskCounts.{card_at_mask}
use Rattle.cards.proofs.RankSets.{shifted_bit, min_one}

-- what a test takes and what it doesn't take are all
one_of_two : (b : Bool) → cond (not b) 1 0 + cond b 1 0 ≡ 1
one_of_two true = refl
one_of_two false = refl

not_and_is : (p : ℕ → Bool) (xs : List ℕ) → count_by (λ x. not (p x)) xs + count_by p xs ≡ length xs
not_and_is p [] = refl
not_and_is p (x ∷ xs) =
    omega (arith, sum_by-cons (λ x. cond (not (p x)) 1 0) x xs, sum_by-cons (λ x. cond (p x) 1 0) x xs, one_of_two (p x), not_and_is p xs)

-- the first n ranks of the suit, as bits
abbrev is_held : List Bool → Suit → ℕ → Bool
is_held hand suit rank = holds_card hand (13 * suit_number suit + rank)

held_rank : (mask first rank : ℕ) (hand : List Bool) (suit : Suit) → mask < 2 ^ 52 → cards_of_mask mask ≡ hand
    → first ≡ 13 * suit_number suit → cond (is_held hand suit rank) 1 0 ≡ bit_at mask (first + rank)
held_rank mask first rank hand suit h view same =
    let held : (bit_at mask (first + rank) == 1) ≡ is_held hand suit rank =
    sym (card_at_mask mask (first + rank) h) ∙ ap (λ d. holds_card d (first + rank)) view ∙ ap (λ k. holds_card hand (k + rank)) same in
    ap (λ b. cond b 1 0) (sym held) ∙ test_bit (bit_at mask (first + rank)) (bit_at-lt mask (first + rank))

winners_are : (mask first n : ℕ) (hand : List Bool) (suit : Suit) → mask < 2 ^ 52 → cards_of_mask mask ≡ hand → first ≡ 13 * suit_number suit
    → bit_and (mask / 2 ^ first) (2 ^ n - 1) ≡ mask_l (map (is_held hand suit) (range_with_len 0 n))
winners_are mask first n hand suit h view same =
    let list : List Bool = map (is_held hand suit) (range_with_len 0 n) in
    let long : length list ≡ n = length-map-range_with_len (is_held hand suit) 0 n in
    same_from_bits_below n _ _ (omega (arith, and_le_r (mask / 2 ^ first) (2 ^ n - 1), pow_pos n)) (rw long at (mask_l-lt list))
    (λ i below.
    bit_at_and (mask / 2 ^ first) (2 ^ n - 1) i
    ∙ ap (min (bit_at (mask / 2 ^ first) i)) (bit_at_ones n i below)
    ∙ min_one (bit_at (mask / 2 ^ first) i) (bit_at-lt (mask / 2 ^ first) i)
    ∙ shifted_bit mask first i
    ∙ sym (held_rank mask first i hand suit h view same)
    ∙ ap (λ b. cond b 1 0) (sym (get_or-map-range_with_len (is_held hand suit) 0 n i i false below (omega arith)))
    ∙ sym (bit_mask_l list i))

-- the losers and the winners of the first n ranks are n
pub losers_and_winners : (mask first n : ℕ) (hand : List Bool) (suit : Suit) → mask < 2 ^ 52
    → cards_of_mask mask ≡ hand → first ≡ 13 * suit_number suit
    → count_by (λ rank. not (is_held hand suit rank)) (range_with_len 0 n) + count_ones (bit_and (mask / 2 ^ first) (2 ^ n - 1)) ≡ n
losers_and_winners mask first n hand suit h view same =
    omega (
      arith,
      ap count_ones (winners_are mask first n hand suit h view same),
      ones-mask_l (is_held hand suit) (range_with_len 0 n),
      not_and_is (is_held hand suit) (range_with_len 0 n),
      length-range_with_len 0 n,
    )

-- the same of as many ranks as count, as they are counted
pub losers_as_counted : (mask first n len : ℕ) (hand : List Bool) (suit : Suit) → mask < 2 ^ 52
    → cards_of_mask mask ≡ hand → first ≡ 13 * suit_number suit
    → len ≡ length_of hand suit → n ≡ min len 3
    → losers_in hand suit + count_ones (bit_and (mask / 2 ^ first) (1 * 2 ^ n % 2 ^ 64 - 1)) ≡ n
losers_as_counted mask first n len hand suit h view same long e =
    let counted : n ≡ min (length_of hand suit) 3 = e ∙ ap (λ l. min l 3) long in
    ap (λ m. losers_in hand suit + count_ones (bit_and (mask / 2 ^ first) (m - 1))) (one_shl n 64 (omega (arith, e)))
    ∙ ap (λ k. count_by (λ rank. not (is_held hand suit rank)) (range_with_len 0 k) + count_ones
    (bit_and (mask / 2 ^ first) (2 ^ n - 1))) (sym counted)
    ∙ losers_and_winners mask first n hand suit h view same
