-- A sum of weights over the cards of a set is so many counts under the masks of the four honours.
use Rattle.std.proofs.Common.{◌≡◌, ℕ, zero, suc, ◌+◌, ◌*◌, ◌%◌, ◌^◌, ◌<◌, ◌≤◌, ◌≢◌, ◌==◌, ◌&&◌, Bool, true, false}
use Rattle.std.proofs.Common.{cond, List, [], ◌∷◌, length, get_or, map, sum, refl, sym, ◌∙◌, ap, arith}
use Rattle.std.specs.Int.RustNames.{bit_and, count_ones}
use Rattle.std.specs.List.{count_by, sum_by}
use Rattle.std.proofs.lemmas.Bool.Decides.{nat_tests}
use Rattle.std.proofs.lemmas.List.{get_or_past}
use Rattle.std.proofs.lemmas.List.Sums.{sum_by-cons}
use lib.Lanes.{mask_l}
use Rattle.cards.specs.declared.suit.Suit.{Suit}
use Rattle.cards.specs.declared.suit.Suit.TheVariants.{Spades, Hearts, Diamonds, Clubs}
use Rattle.cards.specs.Pack.{is_in_suit, rank_of}
use Rattle.cards.specs.Shuffle.{pack}
use Rattle.cards.specs.Hands.{holds_card, holds_in, weight_of, weight_in}
use Rattle.cards.specs.internal.Masks.{cards_of_mask}
use Rattle.cards.proofs.MaskCounts.{sum_by-le, cond-le, both-le, ones_of}

-- the cards of a rank
abbrev is_of_rank : ℕ → ℕ → Bool
is_of_rank rank c = rank_of c == rank

-- the weights of an ace, a king, a queen and a jack, each so many times
abbrev pub weighted : List ℕ → ℕ → ℕ → ℕ → ℕ → ℕ
weighted w a k q j = get_or w 0 0 * a + get_or w 1 0 * k + get_or w 2 0 * q + get_or w 3 0 * j

not_same : (x y : ℕ) → x ≢ y → (x == y) ≡ false
not_same x y ne = grind (arith, nat_tests)

no_weight : (w : List ℕ) (r : ℕ) (b : Bool) → length w ≡ 4 → 4 ≤ r → cond b (get_or w r 0) 0 ≡ 0
no_weight w r true four h = get_or_past w r 0 (omega (arith, four))
no_weight w r false four h = refl

no_honour : (w : List ℕ) (r : ℕ) (b : Bool) → 4 ≤ r → 0 ≡ weighted w (cond ((r == 0) && b) 1 0)
    (cond ((r == 1) && b) 1 0) (cond ((r == 2) && b) 1 0) (cond ((r == 3) && b) 1 0)
no_honour w r b h = rw (not_same r 0 (omega arith), not_same r 1 (omega arith), not_same r 2 (omega arith), not_same r 3 (omega arith)) (omega arith)

-- a card's weight, by its rank
by_rank : (w : List ℕ) (r : ℕ) (b : Bool) → length w ≡ 4
    → cond b (get_or w r 0) 0 ≡ weighted w (cond ((r == 0) && b) 1 0) (cond ((r == 1) && b) 1 0)
    (cond ((r == 2) && b) 1 0) (cond ((r == 3) && b) 1 0)
by_rank w zero true four = omega arith
by_rank w zero false four = omega arith
by_rank w (suc zero) true four = omega arith
by_rank w (suc zero) false four = omega arith
by_rank w (suc (suc zero)) true four = omega arith
by_rank w (suc (suc zero)) false four = omega arith
by_rank w (suc (suc (suc zero))) true four = omega arith
by_rank w (suc (suc (suc zero))) false four = omega arith
by_rank w (suc (suc (suc (suc r)))) b four = no_weight w (suc (suc (suc (suc r)))) b four (omega arith)
    ∙ no_honour w (suc (suc (suc (suc r)))) b (omega arith)

weighted_more : (w : List ℕ) (a k q j a' k' q' j' : ℕ) → weighted w a k q j + weighted w a' k' q' j' ≡ weighted w (a + a') (k + k') (q + q') (j + j')
weighted_more w a k q j a' k' q' j' = omega arith

-- how many cards of the rank are in the set
abbrev of_rank : ℕ → (ℕ → Bool) → List ℕ → ℕ
of_rank r b xs = count_by (λ c. is_of_rank r c && b c) xs

sum_by_ranks : (w : List ℕ) (b : ℕ → Bool) (xs : List ℕ) → length w ≡ 4 → sum_by (λ c. cond (b c) (get_or w (c % 13) 0) 0) xs
    ≡ weighted w (of_rank 0 b xs) (of_rank 1 b xs) (of_rank 2 b xs) (of_rank 3 b xs)
sum_by_ranks w b [] four = omega arith
sum_by_ranks w b (x ∷ xs) four =
    let here = by_rank w (x % 13) (b x) four in
    let more = sum_by_ranks w b xs four in
    let all = weighted_more w (cond ((x % 13 == 0) && b x) 1 0) (cond ((x % 13 == 1) && b x) 1 0)
    (cond ((x % 13 == 2) && b x) 1 0) (cond ((x % 13 == 3) && b x) 1 0) (of_rank 0 b xs) (of_rank 1 b xs)
    (of_rank 2 b xs) (of_rank 3 b xs) in
    sum_by-cons (λ c. cond (b c) (get_or w (c % 13) 0) 0) x xs
    ∙ ap (λ n. n + sum_by (λ c. cond (b c) (get_or w (c % 13) 0) 0) xs) here
    ∙ ap (λ n. weighted w (cond ((x % 13 == 0) && b x) 1 0) (cond ((x % 13 == 1) && b x) 1 0)
    (cond ((x % 13 == 2) && b x) 1 0) (cond ((x % 13 == 3) && b x) 1 0) + n) more
    ∙ all
    ∙ rw (
      sum_by-cons (λ c. cond (is_of_rank 0 c && b c) 1 0) x xs,
      sum_by-cons (λ c. cond (is_of_rank 1 c && b c) 1 0) x xs,
      sum_by-cons (λ c. cond (is_of_rank 2 c && b c) 1 0) x xs,
      sum_by-cons (λ c. cond (is_of_rank 3 c && b c) 1 0) x xs,
    ) refl

rank_masks : (0x8004002001 ≡ mask_l (map (is_of_rank 0) pack)) × (0x10008004002 ≡ mask_l (map (is_of_rank 1) pack))
    × (0x20010008004 ≡ mask_l (map (is_of_rank 2) pack)) × (0x40020010008 ≡ mask_l (map (is_of_rank 3) pack))
unfolding pack
rank_masks = (refl, refl, refl, refl)

-- the weight of a mask's cards
pub weight_by_masks : (w : List ℕ) (mask : ℕ) → mask < 2 ^ 52 → length w ≡ 4
    → weighted w (count_ones (bit_and mask 0x8004002001)) (count_ones (bit_and mask 0x10008004002))
    (count_ones (bit_and mask 0x20010008004)) (count_ones (bit_and mask 0x40020010008)) ≡ weight_of w
    (cards_of_mask mask)
weight_by_masks w mask h four =
    rw (
      ones_of mask 0x8004002001 (is_of_rank 0) h rank_masks.0,
      ones_of mask 0x10008004002 (is_of_rank 1) h rank_masks.1,
      ones_of mask 0x20010008004 (is_of_rank 2) h rank_masks.2,
      ones_of mask 0x40020010008 (is_of_rank 3) h rank_masks.3,
    ) (sym (sum_by_ranks w (holds_card (cards_of_mask mask)) pack four))

-- the same, with the weights as they are read
pub weight_as_read : (w : List ℕ) (mask a k q j : ℕ) → mask < 2 ^ 52 → length w ≡ 4
    → a ≡ get_or w 0 0 → k ≡ get_or w 1 0 → q ≡ get_or w 2 0 → j ≡ get_or w 3 0
    → a * count_ones (bit_and mask 0x8004002001) + k * count_ones (bit_and mask 0x10008004002) + q * count_ones
    (bit_and mask 0x20010008004) + j * count_ones (bit_and mask 0x40020010008) ≡ weight_of w (cards_of_mask mask)
weight_as_read w mask a k q j h four a_is k_is q_is j_is = rw (a_is, k_is, q_is, j_is) (weight_by_masks w mask h four)

-- ---- bounds
sum_of_four : (w : List ℕ) → length w ≡ 4 → sum w ≡ get_or w 0 0 + get_or w 1 0 + get_or w 2 0 + get_or w 3 0
sum_of_four (a ∷ k ∷ q ∷ j ∷ []) four = omega arith
sum_of_four [] four = absurd (omega (arith, four))
sum_of_four (a ∷ []) four = absurd (omega (arith, four))
sum_of_four (a ∷ k ∷ []) four = absurd (omega (arith, four))
sum_of_four (a ∷ k ∷ q ∷ []) four = absurd (omega (arith, four))
sum_of_four (a ∷ k ∷ q ∷ j ∷ x ∷ xs) four = absurd (omega (arith, four))

whole_pack : (w : List ℕ) → length w ≡ 4 → sum_by (λ c. get_or w (c % 13) 0) pack ≡ 4 * sum w
unfolding pack
whole_pack w four = sum_by_ranks w (λ c. true) pack four ∙ omega (arith, sum_of_four w four)

whole_suit : (w : List ℕ) (suit : Suit) → length w ≡ 4 → sum_by (λ c. cond (is_in_suit suit c) (get_or w (c % 13) 0) 0) pack ≡ sum w
unfolding pack
whole_suit w Spades four = sum_by_ranks w (is_in_suit Spades) pack four ∙ omega (arith, sum_of_four w four)
whole_suit w Hearts four = sum_by_ranks w (is_in_suit Hearts) pack four ∙ omega (arith, sum_of_four w four)
whole_suit w Diamonds four = sum_by_ranks w (is_in_suit Diamonds) pack four ∙ omega (arith, sum_of_four w four)
whole_suit w Clubs four = sum_by_ranks w (is_in_suit Clubs) pack four ∙ omega (arith, sum_of_four w four)

-- a hand has at most what the pack has, and its suit what the suit has
pub weight_of-most : (w : List ℕ) (hand : List Bool) → length w ≡ 4 → sum w ≤ 10 → weight_of w hand ≤ 40
weight_of-most w hand four light =
    omega (
      arith,
      whole_pack w four,
      sum_by-le (λ c. cond (holds_card hand c) (get_or w (c % 13) 0) 0) (λ c. get_or w (c % 13) 0)
          (λ c. cond-le (get_or w (c % 13) 0) (holds_card hand c)) pack,
      light,
    )

pub weight_in-most : (w : List ℕ) (hand : List Bool) (suit : Suit) → length w ≡ 4 → sum w ≤ 10 → weight_in w hand suit ≤ 10
weight_in-most w hand suit four light =
    omega (
      arith,
      whole_suit w suit four,
      sum_by-le (λ c. cond (holds_in hand suit c) (get_or w (c % 13) 0) 0)
          (λ c. cond (is_in_suit suit c) (get_or w (c % 13) 0) 0)
          (λ c. both-le (get_or w (c % 13) 0) (is_in_suit suit c) (holds_card hand c)) pack,
      light,
    )
