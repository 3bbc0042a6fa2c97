-- A value of a deal is what the cards count at their seats, and what the value is beside.
use Rattle.std.proofs.Common.{◌≡◌, ◌≤◌, ◌<◌, ◌+◌, ◌-◌, ◌*◌, ◌&&◌, ◌==◌, ℕ, sum, sym, All, Bool, true, false, cond, List, [], ◌∷◌}
use Rattle.std.proofs.Common.{Option, Some, None, ap, arith, get_or, option_map, unwrap_or, refl}
use Rattle.std.specs.List.{sum_by, range_with_len}
use Rattle.std.proofs.Math.Nat.{mul-le-mul_left}
use Rattle.std.proofs.lemmas.List.{get_or-map}
use Rattle.std.proofs.lemmas.List.Elements.{All-from_get_or, All-head, All-tail}
use Rattle.std.proofs.lemmas.List.FromFn.{get_or-range_with_len, length-range_with_len}
use Rattle.std.proofs.lemmas.List.Sums.{sum_by-cons}
use Rattle.cards.specs.declared.hand.Measure.{Measure}
use Rattle.cards.specs.declared.seat.Seat.{Seat}
use Rattle.cards.specs.declared.seat.Seat.TheVariants.{North}
use Rattle.cards.specs.declared.suit.Suit.{Suit}
use Rattle.cards.specs.Counts.{counted_in as suit_counted, counted_of, has_honour}
use Rattle.cards.specs.Deals.{IsPartition}
use Rattle.cards.specs.Hands.{hand_of, holds_card, weight_of, weight_in}
use Rattle.cards.specs.Measures.{weights_of}
use Rattle.cards.specs.Pack.{is_in_suit, rank_of, seat_number}
use Rattle.cards.specs.Shuffle.{pack}
use Rattle.conditions.specs.declared.tree.Count.{Count}
use Rattle.conditions.specs.declared.tree.Count.TheVariants as counts
use Rattle.conditions.specs.Bounds.{greatest_count, least_count, least_of, least_weight, most_counted}
use Rattle.conditions.specs.Form.{Amount, counted, number, times}
use Rattle.conditions.specs.Form.{sum as plus}
use Rattle.conditions.specs.Meaning.{count_in, value_in}
use Rattle.screens.specs.internal.Shares.{card_weight, greatest_beside, is_at, is_light, weight_at}
use Rattle.screens.specs.SingleCards.{count_beside, rank_weight}
use Rattle.conditions.proofs.HandBounds.{both}
use Rattle.conditions.proofs.Measured.{counted_most as whole_most, counted_most_in}
use Rattle.conditions.proofs.ValueBounds.{count_at_least, count_at_most}

-- ---- sums over the pack

pub in_pack : All (λ c. c < 52) pack
unfolding pack
in_pack =
    All-from_get_or (λ c. c < 52) (range_with_len 0 52) 0
    (λ i h. omega (arith, get_or-range_with_len 0 52 i 0 (omega (arith, h, length-range_with_len 0 52)), h, length-range_with_len 0 52))

pub same_in : (f g : ℕ → ℕ) → ((c : ℕ) → c < 52 → f c ≡ g c) → (xs : List ℕ) → All (λ c. c < 52) xs → sum_by f xs ≡ sum_by g xs
same_in f g e [] inside = refl
same_in f g e (x ∷ xs) inside = omega (
  arith,
  sum_by-cons f x xs,
  sum_by-cons g x xs,
  e x (All-head (λ c. c < 52) x xs inside),
  same_in f g e xs (All-tail (λ c. c < 52) x xs inside),
)

pub nothing : (xs : List ℕ) → sum_by (λ c. 0) xs ≡ 0
nothing [] = refl
nothing (x ∷ xs) = omega (arith, sum_by-cons (λ c. 0) x xs, nothing xs)

-- who has the card
abbrev pub holder : List Seat → ℕ → Seat
holder deal c = get_or deal c North

pub read_hand : (deal : List Seat) (q : Seat) (c : ℕ) → IsPartition deal → c < 52 → holds_card (hand_of deal q) c ≡ is_at q (holder deal c)
read_hand deal q c ok inside = get_or-map (λ h. seat_number h == seat_number q) deal c North false (omega (arith, ok.count))

-- what all cards count at their seats
abbrev pub counted_in : List Seat → Amount → ℕ
counted_in deal a = sum_by (λ c. weight_at a c (holder deal c)) pack

-- a sum over a seat's cards, by a test of each card
by_card : (deal : List Seat) (q : Seat) (w : ℕ → ℕ) (t : ℕ → Bool → Bool) → IsPartition deal
    → sum_by (λ c. cond (t c (holds_card (hand_of deal q) c)) (w c) 0) pack ≡ sum_by (λ c. cond (t c (is_at q (holder deal c))) (w c) 0) pack
by_card deal q w t ok =
    same_in (λ c. cond (t c (holds_card (hand_of deal q) c)) (w c) 0) (λ c. cond (t c (is_at q (holder deal c))) (w c) 0)
    (λ c h. ap (λ b. cond (t c b) (w c) 0) (read_hand deal q c ok h)) pack in_pack

-- ---- measures

abbrev ranked : Option (List ℕ) → ℕ → ℕ
ranked o c = unwrap_or (option_map (λ w. get_or w (rank_of c) 0) o) 0

none_ranked : (b : Bool) → cond {A = ℕ} b 0 0 ≡ 0
none_ranked true = refl
none_ranked false = refl

nothing_ranked : (p : ℕ → Bool) (xs : List ℕ) → sum_by (λ c. cond (p c) 0 0) xs ≡ 0
nothing_ranked p [] = refl
nothing_ranked p (x ∷ xs) = omega (arith, sum_by-cons (λ c. cond (p c) 0 0) x xs, none_ranked (p x), nothing_ranked p xs)

measured_least : (m : Measure) (o : Option (List ℕ)) (deal : List Seat) (q : Seat) → IsPartition deal
    → sum_by (λ c. cond (is_at q (holder deal c)) (ranked o c) 0) pack
    ≤ unwrap_or (option_map (λ w. weight_of w (hand_of deal q)) o) (counted_of m (hand_of deal q))
measured_least m (Some w) deal q ok = omega (arith, by_card deal q (λ c. get_or w (rank_of c) 0) (λ c b. b) ok)
measured_least m None deal q ok = omega (arith, nothing_ranked (λ c. is_at q (holder deal c)) pack)

measured_most : (m : Measure) (o : Option (List ℕ)) (deal : List Seat) (q : Seat) → IsPartition deal
    → unwrap_or (option_map (λ w. weight_of w (hand_of deal q)) o) (counted_of m (hand_of deal q))
    ≤ unwrap_or (option_map (λ w. 0) o) (unwrap_or (option_map (λ w. 4 * sum w - 3 * least_weight w) o) (4 * most_counted m))
    + sum_by (λ c. cond (is_at q (holder deal c)) (ranked o c) 0) pack
measured_most m (Some w) deal q ok = omega (arith, by_card deal q (λ c. get_or w (rank_of c) 0) (λ c b. b) ok)
measured_most m None deal q ok = omega (arith, whole_most m (hand_of deal q))

suit_measured_least : (m : Measure) (o : Option (List ℕ)) (deal : List Seat) (q : Seat) (s : Suit) → IsPartition deal
    → sum_by (λ c. cond (is_in_suit s c && is_at q (holder deal c)) (ranked o c) 0) pack
    ≤ unwrap_or (option_map (λ w. weight_in w (hand_of deal q) s) o) (suit_counted m (hand_of deal q) s)
suit_measured_least m (Some w) deal q s ok = omega (arith, by_card deal q (λ c. get_or w (rank_of c) 0) (λ c b. is_in_suit s c && b) ok)
suit_measured_least m None deal q s ok = omega (arith, nothing_ranked (λ c. is_in_suit s c && is_at q (holder deal c)) pack)

suit_measured_most : (m : Measure) (o : Option (List ℕ)) (deal : List Seat) (q : Seat) (s : Suit) → IsPartition deal
    → unwrap_or (option_map (λ w. weight_in w (hand_of deal q) s) o) (suit_counted m (hand_of deal q) s)
    ≤ unwrap_or (option_map (λ w. 0) o) (unwrap_or (option_map sum o) (most_counted m))
    + sum_by (λ c. cond (is_in_suit s c && is_at q (holder deal c)) (ranked o c) 0) pack
suit_measured_most m (Some w) deal q s ok = omega (arith, by_card deal q (λ c. get_or w (rank_of c) 0) (λ c b. is_in_suit s c && b) ok)
suit_measured_most m None deal q s ok = omega (arith, counted_most_in m (hand_of deal q) s)

-- ---- a card at a seat

and_cond : (b c : Bool) (n : ℕ) → cond {A = ℕ} (b && c) n 0 ≡ cond c (cond b n 0) 0
and_cond true true n = refl
and_cond true false n = refl
and_cond false true n = refl
and_cond false false n = refl

and_again : (a b c : Bool) → cond {A = ℕ} (a && (b && c)) 1 0 ≡ cond c (cond b (cond a 1 0) 0) 0
and_again true b true = and_cond b true 1
and_again true b false = and_cond b false 1
and_again false true true = refl
and_again false true false = refl
and_again false false true = refl
and_again false false false = refl

-- what the card counts in a count, by one test of it and of the seat that has it
abbrev tested : Count → ℕ → Seat → ℕ
tested (counts.Total m p) c q = cond (is_at p q) (rank_weight m c) 0
tested (counts.SuitTotal m p s) c q = cond (is_in_suit s c && is_at p q) (rank_weight m c) 0
tested (counts.Cards p h) c q = cond (has_honour h (rank_of c) && is_at p q) 1 0
tested (counts.SuitCards p s h) c q = cond (has_honour h (rank_of c) && (is_in_suit s c && is_at p q)) 1 0
tested (counts.Length p s) c q = cond (is_in_suit s c && is_at p q) 1 0
tested (counts.Ordered o p) c q = 0

at_seat : (k : Count) (c : ℕ) (q : Seat) → card_weight k c q ≡ tested k c q
at_seat (counts.Total m p) c q = refl
at_seat (counts.SuitTotal m p s) c q = sym (and_cond (is_in_suit s c) (is_at p q) _)
at_seat (counts.Cards p h) c q = sym (and_cond (has_honour h (rank_of c)) (is_at p q) 1)
at_seat (counts.SuitCards p s h) c q = sym (and_again (has_honour h (rank_of c)) (is_in_suit s c) (is_at p q))
at_seat (counts.Length p s) c q = sym (and_cond (is_in_suit s c) (is_at p q) 1)
at_seat (counts.Ordered o p) c q = none_ranked (is_at p q)

-- ---- counts

-- what all cards count in a count
abbrev cards_count : List Seat → Count → ℕ
cards_count deal k = sum_by (λ c. card_weight k c (holder deal c)) pack

abbrev tests_count : List Seat → Count → ℕ
tests_count deal k = sum_by (λ c. tested k c (holder deal c)) pack

tested_all : (deal : List Seat) (k : Count) → cards_count deal k ≡ tests_count deal k
tested_all deal k =
    same_in (λ c. card_weight k c (holder deal c)) (λ c. tested k c (holder deal c)) (λ c h. at_seat k c (holder deal c)) pack in_pack

tests_least : (deal : List Seat) → IsPartition deal → (k : Count) → least_count k + tests_count deal k ≤ count_in deal k
tests_least deal ok (counts.Total m q) = omega (arith, measured_least m (weights_of m) deal q ok)
tests_least deal ok (counts.SuitTotal m q s) = omega (arith, suit_measured_least m (weights_of m) deal q s ok)
tests_least deal ok (counts.Cards q h) = omega (arith, by_card deal q (λ c. 1) (λ c b. has_honour h (rank_of c) && b) ok)
tests_least deal ok (counts.SuitCards q s h) = omega (arith, by_card deal q (λ c. 1) (λ c b. has_honour h (rank_of c) && (is_in_suit s c && b)) ok)
tests_least deal ok (counts.Length q s) = omega (arith, by_card deal q (λ c. 1) (λ c b. is_in_suit s c && b) ok)
tests_least deal ok (counts.Ordered o q) = omega (arith, nothing pack, count_at_least deal ok (counts.Ordered o q))

tests_most : (deal : List Seat) → IsPartition deal → (k : Count) → count_in deal k ≤ count_beside k + tests_count deal k
tests_most deal ok (counts.Total m q) = omega (arith, measured_most m (weights_of m) deal q ok)
tests_most deal ok (counts.SuitTotal m q s) = omega (arith, suit_measured_most m (weights_of m) deal q s ok)
tests_most deal ok (counts.Cards q h) = omega (arith, by_card deal q (λ c. 1) (λ c b. has_honour h (rank_of c) && b) ok)
tests_most deal ok (counts.SuitCards q s h) = omega (arith, by_card deal q (λ c. 1) (λ c b. has_honour h (rank_of c) && (is_in_suit s c && b)) ok)
tests_most deal ok (counts.Length q s) = omega (arith, by_card deal q (λ c. 1) (λ c b. is_in_suit s c && b) ok)
tests_most deal ok (counts.Ordered o q) = omega (arith, nothing pack, count_at_most deal ok (counts.Ordered o q))

cards_least : (deal : List Seat) → IsPartition deal → (k : Count) → least_count k + cards_count deal k ≤ count_in deal k
cards_least deal ok k = omega (arith, tests_least deal ok k, tested_all deal k)

cards_most : (deal : List Seat) → IsPartition deal → (k : Count) → count_in deal k ≤ count_beside k + cards_count deal k
cards_most deal ok k = omega (arith, tests_most deal ok k, tested_all deal k)

-- ---- factors

scaled : (n : ℕ) (f : ℕ → ℕ) (xs : List ℕ) → sum_by (λ c. n * f c) xs ≡ n * sum_by f xs
scaled n f [] = omega arith
scaled n f (x ∷ xs) = omega (arith, sum_by-cons (λ c. n * f c) x xs, ap (λ k. n * k) (sum_by-cons f x xs), scaled n f xs)

-- light cards are weighed one by one, and others are taken as a whole
times_least :
    (light : Bool) (n : ℕ) (deal : List Seat) → IsPartition deal → (k : Count)
    → n * least_count k + sum_by (λ c. cond light (n * card_weight k c (holder deal c)) 0) pack ≤ n * count_in deal k
times_least true n deal ok k = omega (arith, scaled n (λ c. card_weight k c (holder deal c)) pack, mul-le-mul_left n (cards_least deal ok k))
times_least false n deal ok k = omega (arith, nothing pack, mul-le-mul_left n (count_at_least deal ok k))

times_most :
    (light : Bool) (n : ℕ) (deal : List Seat) → IsPartition deal → (k : Count)
    → n * count_in deal k ≤ cond light (n * count_beside k) (n * greatest_count k) + sum_by
    (λ c. cond light (n * card_weight k c (holder deal c)) 0) pack
times_most true n deal ok k = omega (arith, scaled n (λ c. card_weight k c (holder deal c)) pack, mul-le-mul_left n (cards_most deal ok k))
times_most false n deal ok k = omega (arith, nothing pack, mul-le-mul_left n (count_at_most deal ok k))

-- ---- values

counted_sum : (deal : List Seat) (a b : Amount) → counted_in deal (plus a b) ≡ counted_in deal a + counted_in deal b
counted_sum deal a b = both (λ c. weight_at a c (holder deal c)) (λ c. weight_at b c (holder deal c)) pack

pub counted_least : (deal : List Seat) → IsPartition deal → (a : Amount) → least_of a + counted_in deal a ≤ value_in deal a
counted_least deal ok (plus a b) = omega (arith, counted_sum deal a b, counted_least deal ok a, counted_least deal ok b)
counted_least deal ok (number n) = omega (arith, nothing pack)
counted_least deal ok (counted k) = cards_least deal ok k
counted_least deal ok (times n k) = times_least (is_light n) n deal ok k

pub counted_most : (deal : List Seat) → IsPartition deal → (a : Amount) → value_in deal a ≤ greatest_beside a + counted_in deal a
counted_most deal ok (plus a b) = omega (arith, counted_sum deal a b, counted_most deal ok a, counted_most deal ok b)
counted_most deal ok (number n) = omega (arith, nothing pack)
counted_most deal ok (counted k) = cards_most deal ok k
counted_most deal ok (times n k) = times_most (is_light n) n deal ok k
