-- What a hand counts at the most.
use Rattle.std.proofs.Common.{◌≡◌, ◌≤◌, ◌+◌, ◌-◌, ◌*◌, ◌%◌, ◌&&◌, ℕ, min, not, Bool, true, false, cond, List, [], ◌∷◌}
use Rattle.std.proofs.Common.{ap, arith, get_or, length, option_map, unwrap_or, IfSome, Option, Some, None, sum}
use Rattle.std.specs.List.{range_with_len, sum_by}
use Rattle.std.proofs.lemmas.List.FromFn.{length-range_with_len}
use Rattle.std.proofs.lemmas.List.Sums.{count_by-le-length, sum_by-cons}
use Rattle.cards.specs.declared.honours.Honours.{Honours}
use Rattle.cards.specs.declared.hand.Measure.{Measure}
use Rattle.cards.specs.declared.hand.Measure.TheVariants.{Losers}
use Rattle.cards.specs.declared.seat.Seat.{Seat}
use Rattle.cards.specs.declared.suit.Suit.{Suit}
use Rattle.cards.specs.declared.suit.Suit.TheVariants.{Spades, Hearts, Diamonds, Clubs}
use Rattle.cards.specs.Deals.{IsPartition}
use Rattle.cards.specs.Hands.{hand_of, holds_card, holds_in, length_of, weight_in, weight_of}
use Rattle.cards.specs.Counts.{counted_in, counted_of, has_honour, honours_in, honours_of, losers_in, total_in, total_of}
use Rattle.cards.specs.Measures.{four_weights, weights_of}
use Rattle.cards.specs.Pack.{is_in_suit, rank_of, suit_number}
use Rattle.cards.specs.Shuffle.{pack}
use Rattle.cards.proofs.MaskCounts.{both-le, cond-le, sum_by-le}
use Rattle.conditions.specs.Bounds.{least_weight, most_counted, most_in, most_of, rank_count}
use Rattle.conditions.proofs.HandBounds.{both, thirteen}

-- ---- weights

-- what a card counts is the least weight if it is held, and what it counts above that
above : (least w : ℕ) (b : Bool) → cond b w 0 ≤ (w - least) + cond b least 0
above least w true = omega arith
above least w false = omega arith

above_least : (a k q j least : ℕ) → sum_by (λ c. get_or (a ∷ k ∷ q ∷ j ∷ []) (c % 13) 0 - least) pack
    ≡ 4 * ((a - least) + (k - least) + (q - least) + (j - least))
unfolding pack
above_least a k q j least = omega arith

one_of : (n : ℕ) (b : Bool) → cond b n 0 ≡ n * cond b 1 0
one_of n true = omega arith
one_of n false = omega arith

of_each : (n : ℕ) (p : ℕ → Bool) (xs : List ℕ) → sum_by (λ c. cond (p c) n 0) xs ≡ n * sum_by (λ c. cond (p c) 1 0) xs
of_each n p [] = omega arith
of_each n p (x ∷ xs) =
    omega (
      arith,
      sum_by-cons (λ c. cond (p c) n 0) x xs,
      ap (λ k. n * k) (sum_by-cons (λ c. cond (p c) 1 0) x xs),
      one_of n (p x),
      of_each n p xs,
    )

-- of the sixteen honours a hand of thirteen cards lacks three
weight_most : (w : List ℕ) (deal : List Seat) (q : Seat) → IsPartition deal → length w ≡ 4
    → weight_of w (hand_of deal q) ≤ 4 * sum w - 3 * least_weight w
weight_most (a ∷ k ∷ u ∷ j ∷ []) deal q ok four =
    let w : List ℕ = a ∷ k ∷ u ∷ j ∷ [] in
    let least : ℕ = least_weight w in
    let hand : List Bool = hand_of deal q in
    omega (
      arith,
      sum_by-le (λ c. cond (holds_card hand c) (get_or w (c % 13) 0) 0)
          (λ c. (get_or w (c % 13) 0 - least) + cond (holds_card hand c) least 0)
          (λ c. above least (get_or w (c % 13) 0) (holds_card hand c)) pack,
      both (λ c. get_or w (c % 13) 0 - least) (λ c. cond (holds_card hand c) least 0) pack,
      above_least a k u j least,
      of_each least (holds_card hand) pack,
      ap (λ n. least * n) (thirteen deal q ok),
    )
weight_most [] deal q ok four = absurd (omega (arith, four))
weight_most (a ∷ []) deal q ok four = absurd (omega (arith, four))
weight_most (a ∷ k ∷ []) deal q ok four = absurd (omega (arith, four))
weight_most (a ∷ k ∷ u ∷ []) deal q ok four = absurd (omega (arith, four))
weight_most (a ∷ k ∷ u ∷ j ∷ x ∷ xs) deal q ok four = absurd (omega (arith, four))

in_suit : (a k q j : ℕ) (suit : Suit)
    → sum_by (λ c. cond (is_in_suit suit c) (get_or (a ∷ k ∷ q ∷ j ∷ []) (c % 13) 0) 0) pack ≡ a + k + q + j
unfolding pack
in_suit a k q j Spades = omega arith
in_suit a k q j x = omega arith

suit_weight_most : (w : List ℕ) (hand : List Bool) (suit : Suit) → length w ≡ 4 → weight_in w hand suit ≤ sum w
suit_weight_most (a ∷ k ∷ u ∷ j ∷ []) hand suit four =
    let w : List ℕ = a ∷ k ∷ u ∷ j ∷ [] in
    omega (
      arith,
      in_suit a k u j suit,
      sum_by-le (λ c. cond (holds_in hand suit c) (get_or w (c % 13) 0) 0)
          (λ c. cond (is_in_suit suit c) (get_or w (c % 13) 0) 0)
          (λ c. both-le (get_or w (c % 13) 0) (is_in_suit suit c) (holds_card hand c)) pack,
    )
suit_weight_most [] hand suit four = absurd (omega (arith, four))
suit_weight_most (a ∷ []) hand suit four = absurd (omega (arith, four))
suit_weight_most (a ∷ k ∷ []) hand suit four = absurd (omega (arith, four))
suit_weight_most (a ∷ k ∷ u ∷ []) hand suit four = absurd (omega (arith, four))
suit_weight_most (a ∷ k ∷ u ∷ j ∷ x ∷ xs) hand suit four = absurd (omega (arith, four))

-- ---- more than ranks

suit_losers_most : (hand : List Bool) (suit : Suit) → losers_in hand suit ≤ 3
suit_losers_most hand suit =
    let n : ℕ = min (length_of hand suit) 3 in
    omega (
      arith,
      count_by-le-length (λ rank. not (holds_card hand (13 * suit_number suit + rank))) (range_with_len 0 n),
      length-range_with_len 0 n,
    )

pub counted_most_in : (m : Measure) (hand : List Bool) (suit : Suit) → counted_in m hand suit ≤ most_counted m
counted_most_in Losers hand suit = suit_losers_most hand suit
counted_most_in m hand suit = omega arith

pub counted_most : (m : Measure) (hand : List Bool) → counted_of m hand ≤ 4 * most_counted m
counted_most m hand = omega (
  arith,
  counted_most_in m hand Spades,
  counted_most_in m hand Hearts,
  counted_most_in m hand Diamonds,
  counted_most_in m hand Clubs,
)

-- ---- measures

by_weights : (m : Measure) (o : Option (List ℕ)) (deal : List Seat) (q : Seat) → IsPartition deal → IfSome o (λ w. length w ≡ 4)
    → unwrap_or (option_map (λ w. weight_of w (hand_of deal q)) o) (counted_of m (hand_of deal q))
    ≤ unwrap_or (option_map (λ w. 4 * sum w - 3 * least_weight w) o) (4 * most_counted m)
by_weights m (Some w) deal q ok four = weight_most w deal q ok four
by_weights m None deal q ok four = counted_most m (hand_of deal q)

pub measure_most : (m : Measure) (deal : List Seat) (q : Seat) → IsPartition deal → total_of m (hand_of deal q) ≤ most_of m
measure_most m deal q ok = by_weights m (weights_of m) deal q ok (four_weights m)

in_suit_by_weights : (m : Measure) (o : Option (List ℕ)) (hand : List Bool) (suit : Suit) → IfSome o (λ w. length w ≡ 4)
    → unwrap_or (option_map (λ w. weight_in w hand suit) o) (counted_in m hand suit) ≤ unwrap_or (option_map sum o) (most_counted m)
in_suit_by_weights m (Some w) hand suit four = suit_weight_most w hand suit four
in_suit_by_weights m None hand suit four = counted_most_in m hand suit

pub suit_measure_most : (m : Measure) (hand : List Bool) (suit : Suit) → total_in m hand suit ≤ most_in m
suit_measure_most m hand suit = in_suit_by_weights m (weights_of m) hand suit (four_weights m)

-- ---- ranks

all_ranks : (h : Honours) → sum_by (λ c. cond (has_honour h (rank_of c)) 1 0) pack ≡ 4 * rank_count h
unfolding pack
all_ranks h = omega arith

pub cards_most : (h : Honours) (hand : List Bool) → honours_of h hand ≤ 4 * rank_count h
cards_most h hand =
    omega (
      arith,
      all_ranks h,
      sum_by-le (λ c. cond (has_honour h (rank_of c) && holds_card hand c) 1 0) (λ c. cond (has_honour h (rank_of c)) 1 0)
          (λ c. both-le 1 (has_honour h (rank_of c)) (holds_card hand c)) pack,
    )

second-le : (a b : Bool) → cond {A = ℕ} (a && b) 1 0 ≤ cond b 1 0
second-le true b = omega arith
second-le false true = omega arith
second-le false false = omega arith

pub cards_thirteen : (h : Honours) (deal : List Seat) (q : Seat) → IsPartition deal → honours_of h (hand_of deal q) ≤ 13
cards_thirteen h deal q ok =
    omega (
      arith,
      thirteen deal q ok,
      sum_by-le (λ c. cond (has_honour h (rank_of c) && holds_card (hand_of deal q) c) 1 0) (λ c. cond (holds_card (hand_of deal q) c) 1 0)
          (λ c. second-le (has_honour h (rank_of c)) (holds_card (hand_of deal q) c)) pack,
    )

suit_ranks : (h : Honours) (suit : Suit) → sum_by (λ c. cond (is_in_suit suit c && has_honour h (rank_of c)) 1 0) pack ≡ rank_count h
unfolding pack
suit_ranks h Spades = omega arith
suit_ranks h x = omega arith

three-le : (a b c : Bool) → cond (a && (b && c)) 1 0 ≤ cond (b && a) 1 0
three-le true true c = cond-le 1 c
three-le true false c = omega arith
three-le false b c = omega arith

pub suit_cards_most : (h : Honours) (hand : List Bool) (suit : Suit) → honours_in h hand suit ≤ rank_count h
suit_cards_most h hand suit =
    omega (
      arith,
      suit_ranks h suit,
      sum_by-le (λ c. cond (has_honour h (rank_of c) && holds_in hand suit c) 1 0) (λ c. cond (is_in_suit suit c && has_honour h (rank_of c)) 1 0)
          (λ c. three-le (has_honour h (rank_of c)) (is_in_suit suit c) (holds_card hand c)) pack,
    )
