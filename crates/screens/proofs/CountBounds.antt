-- What is counted is within the bounds that true facts tell.
use Rattle.std.proofs.Common.{◌≡◌, ◌≤◌, ◌+◌, ◌&&◌, ◌==◌, ◌/◌, ℕ, zero, suc, Bool, true, false, cond, List, [], ◌∷◌}
use Rattle.std.proofs.Common.{Option, Some, None, arith, get_or, if◌then◌else◌, length, max, min, option_map, refl}
use Rattle.std.proofs.Common.{subst, unwrap_or}
use Rattle.std.specs.List.{sum_by}
use Rattle.std.proofs.lemmas.Bool.{true≢false}
use Rattle.cards.specs.declared.hand.Measure.{Measure}
use Rattle.cards.specs.declared.seat.Seat.{Seat}
use Rattle.cards.specs.declared.suit.Suit.{Suit}
use Rattle.cards.specs.declared.suit.Suit.TheVariants.{Spades, Hearts, Diamonds, Clubs}
use Rattle.std.proofs.lemmas.List.{get_or_past}
use Rattle.std.proofs.lemmas.List.Sums.{sum_by-cons}
use Rattle.cards.specs.Counts.{counted_in, counted_of, total_of}
use Rattle.cards.specs.Deals.{IsPartition}
use Rattle.cards.specs.Hands.{hand_of, holds_card, weight_in, weight_of}
use Rattle.cards.specs.Measures.{weights_of}
use Rattle.cards.proofs.OrderedLengths.{ordered_le}
use Rattle.cards.specs.Pack.{rank_of}
use Rattle.cards.specs.Shuffle.{pack}
use Rattle.conditions.specs.declared.tree.Count.{Count}
use Rattle.conditions.specs.declared.tree.Count.TheVariants as counts
use Rattle.conditions.specs.Bounds.{greatest_count}
use Rattle.conditions.specs.Meaning.{count_in}
use Rattle.conditions.proofs.HandBounds.{both, long}
use Rattle.conditions.proofs.ValueBounds.{count_at_least, count_at_most}
use Rattle.screens.specs.declared.unmet.facts.Fact.{Fact}
use Rattle.screens.specs.declared.unmet.facts.Facts.{Facts}
use Rattle.screens.specs.Facts.{AreTrueOf, IsTrueOf, greatest_by, greatest_in, greatest_made, greatest_told}
use Rattle.screens.specs.Facts.{greatest_totals, is_same_count, is_told, least_by, least_in, least_made, least_told}
use Rattle.screens.specs.Facts.{least_totals}
use Rattle.screens.specs.Suits.{total_in as total_in_suits}
use Rattle.screens.proofs.SameCount.{same_count}

-- ---- one fact

low_if : (b : Bool) (m n : ℕ) → (b ≡ true → m ≤ n) → (if b then m else 0) ≤ n
low_if true m n h = h refl
low_if false m n h = omega arith

high_if : (b : Bool) (m n g : ℕ) → (b ≡ true → n ≤ m) → n ≤ g → n ≤ (if b then min g m else g)
high_if true m n g h i = omega (arith, h refl, i)
high_if false m n g h i = i

low_in : (deal : List Seat) (fact : Fact) (c : Count) → IsTrueOf deal fact → least_in fact c ≤ count_in deal c
low_in deal fact c is =
    low_if (is_same_count fact.count c) fact.least (count_in deal c)
    (λ e. subst (λ k. fact.least ≤ count_in deal k) (same_count fact.count c e) is.low)

high_in : (deal : List Seat) (fact : Fact) (c : Count) (g : ℕ) → IsTrueOf deal fact → count_in deal c ≤ g → count_in deal c ≤ greatest_in fact c g
high_in deal fact c g is h =
    high_if (is_same_count fact.count c) fact.most (count_in deal c) g
    (λ e. subst (λ k. count_in deal k ≤ fact.most) (same_count fact.count c e) is.high) h

-- ---- four facts

pub low_told : (deal : List Seat) (k : Facts) (c : Count) → IsPartition deal → AreTrueOf deal k → least_told k c ≤ count_in deal c
unfolding least_told
low_told deal k c ok are =
    omega (
      arith,
      low_in deal k.first c are.first,
      low_in deal k.second c are.second,
      low_in deal k.third c are.third,
      low_in deal k.fourth c are.fourth,
      count_at_least deal ok c,
    )

pub high_told : (deal : List Seat) (k : Facts) (c : Count) → IsPartition deal → AreTrueOf deal k → count_in deal c ≤ greatest_told k c
unfolding greatest_told
high_told deal k c ok are =
    let one : ℕ = greatest_in k.first c (greatest_count c) in
    let two : ℕ = greatest_in k.second c one in
    let three : ℕ = greatest_in k.third c two in
    high_in deal k.fourth c three are.fourth
    (high_in deal k.third c two are.third
    (high_in deal k.second c one are.second
    (high_in deal k.first c (greatest_count c) are.first (count_at_most deal ok c))))

-- ---- a hand's suits

no_weight : (b : Bool) (w : ℕ) → cond {A = ℕ} (b && false) w 0 ≡ 0
no_weight true w = refl
no_weight false w = refl

-- of the four suits a card is in one
by_suit : (k : ℕ) (b : Bool) (w : ℕ) → (4 ≤ k → b ≡ false)
    → cond ((k == 0) && b) w 0 + cond ((k == 1) && b) w 0 + cond ((k == 2) && b) w 0 + cond ((k == 3) && b) w 0 ≡ cond b w 0
by_suit zero true w none = omega arith
by_suit zero false w none = refl
by_suit (suc zero) true w none = omega arith
by_suit (suc zero) false w none = refl
by_suit (suc (suc zero)) true w none = omega arith
by_suit (suc (suc zero)) false w none = refl
by_suit (suc (suc (suc zero))) true w none = omega arith
by_suit (suc (suc (suc zero))) false w none = refl
by_suit (suc (suc (suc (suc k)))) true w none = absurd (true≢false (none (omega arith)))
by_suit (suc (suc (suc (suc k)))) false w none =
    let n : ℕ = suc (suc (suc (suc k))) in
    omega (arith, no_weight (n == 0) w, no_weight (n == 1) w, no_weight (n == 2) w, no_weight (n == 3) w)

same_sum : (f g : ℕ → ℕ) → ((x : ℕ) → f x ≡ g x) → (xs : List ℕ) → sum_by f xs ≡ sum_by g xs
same_sum f g e [] = refl
same_sum f g e (x ∷ xs) = omega (arith, sum_by-cons f x xs, sum_by-cons g x xs, e x, same_sum f g e xs)

no_card : (hand : List Bool) (c : ℕ) → length hand ≡ 52 → 4 ≤ c / 13 → holds_card hand c ≡ false
no_card hand c whole after = get_or_past hand c false (omega (arith, whole, after))

weights_add : (w : List ℕ) (deal : List Seat) (q : Seat) → IsPartition deal
    → weight_in w (hand_of deal q) Spades + weight_in w (hand_of deal q) Hearts + weight_in w (hand_of deal q)
    Diamonds + weight_in w (hand_of deal q) Clubs
    ≡ weight_of w (hand_of deal q)
weights_add w deal q ok =
    let hand : List Bool = hand_of deal q in
    let in_suit : ℕ → ℕ → ℕ = λ k c. cond ((c / 13 == k) && holds_card hand c) (get_or w (rank_of c) 0) 0 in
    omega (
      arith,
      both (in_suit 0) (in_suit 1) pack,
      both (λ c. in_suit 0 c + in_suit 1 c) (in_suit 2) pack,
      both (λ c. in_suit 0 c + in_suit 1 c + in_suit 2 c) (in_suit 3) pack,
      same_sum (λ c. in_suit 0 c + in_suit 1 c + in_suit 2 c + in_suit 3 c) (λ c. cond (holds_card hand c) (get_or w (rank_of c) 0) 0)
          (λ c. by_suit (c / 13) (holds_card hand c) (get_or w (rank_of c) 0) (no_card hand c (long deal q ok))) pack,
    )

abbrev measured_in : Measure → Option (List ℕ) → List Bool → Suit → ℕ
measured_in m o hand s = unwrap_or (option_map (λ w. weight_in w hand s) o) (counted_in m hand s)

measures_add : (m : Measure) (o : Option (List ℕ)) (deal : List Seat) (q : Seat) → IsPartition deal
    → measured_in m o (hand_of deal q) Spades + measured_in m o (hand_of deal q) Hearts + measured_in m o (hand_of deal q)
    Diamonds + measured_in m o (hand_of deal q) Clubs
    ≡ unwrap_or (option_map (λ w. weight_of w (hand_of deal q)) o) (counted_of m (hand_of deal q))
measures_add m (Some w) deal q ok = weights_add w deal q ok
measures_add m None deal q ok = refl

-- what a hand counts is what its suits do
pub suits_add : (deal : List Seat) (m : Measure) (q : Seat) → IsPartition deal
    → count_in deal (counts.SuitTotal m q Spades) + count_in deal (counts.SuitTotal m q Hearts) + count_in deal (counts.SuitTotal m q Diamonds)
    + count_in deal (counts.SuitTotal m q Clubs)
    ≡ total_of m (hand_of deal q)
suits_add deal m q ok = measures_add m (weights_of m) deal q ok

-- ---- what the suits make

either_way : (b : Bool) (P : ℕ → Type 0) (m n : ℕ) → P m → P n → P (if b then m else n)
either_way true P m n x y = x
either_way false P m n x y = y

module _ (deal : List Seat) (k : Facts) (ok : IsPartition deal) (are : AreTrueOf deal k) where
  low : (c : Count) → least_told k c ≤ count_in deal c
  low c = low_told deal k c ok are

  high : (c : Count) → count_in deal c ≤ greatest_told k c
  high c = high_told deal k c ok are

  low_total : (m : Measure) (q : Seat) → total_in_suits (least_totals k m q) ≤ total_of m (hand_of deal q)
  low_total m q =
      omega (
        arith,
        low (counts.SuitTotal m q Spades),
        low (counts.SuitTotal m q Hearts),
        low (counts.SuitTotal m q Diamonds),
        low (counts.SuitTotal m q Clubs),
        suits_add deal m q ok,
      )

  high_total : (m : Measure) (q : Seat) → total_of m (hand_of deal q) ≤ total_in_suits (greatest_totals k m q)
  high_total m q =
      omega (
        arith,
        high (counts.SuitTotal m q Spades),
        high (counts.SuitTotal m q Hearts),
        high (counts.SuitTotal m q Diamonds),
        high (counts.SuitTotal m q Clubs),
        suits_add deal m q ok,
      )

  low_made : (c : Count) → least_made k c ≤ count_in deal c
  low_made (counts.Ordered o q) =
      ordered_le o _ _ _ _ _ _ _ _ (low (counts.Length q Spades)) (low (counts.Length q Hearts))
      (low (counts.Length q Diamonds)) (low (counts.Length q Clubs))
  low_made (counts.Total m q) = low_total m q
  low_made (counts.SuitTotal m q s) = omega arith
  low_made (counts.Cards q h) = omega arith
  low_made (counts.SuitCards q s h) = omega arith
  low_made (counts.Length q s) = omega arith

  high_made : (c : Count) → count_in deal c ≤ greatest_made k c
  high_made (counts.Ordered o q) =
      ordered_le o _ _ _ _ _ _ _ _ (high (counts.Length q Spades)) (high (counts.Length q Hearts))
      (high (counts.Length q Diamonds)) (high (counts.Length q Clubs))
  high_made (counts.Total m q) = high_total m q
  high_made (counts.SuitTotal m q s) = count_at_most deal ok (counts.SuitTotal m q s)
  high_made (counts.Cards q h) = count_at_most deal ok (counts.Cards q h)
  high_made (counts.SuitCards q s h) = count_at_most deal ok (counts.SuitCards q s h)
  high_made (counts.Length q s) = count_at_most deal ok (counts.Length q s)

  pub at_least : (c : Count) → least_by k c ≤ count_in deal c
  unfolding least_by
  at_least c = either_way (is_told k c) (λ n. n ≤ count_in deal c) (least_told k c)
      (max (least_told k c) (least_made k c)) (low c) (omega (arith, low c, low_made c))

  pub at_most : (c : Count) → count_in deal c ≤ greatest_by k c
  unfolding greatest_by
  at_most c = either_way (is_told k c) (λ n. count_in deal c ≤ n) (greatest_told k c)
      (min (greatest_told k c) (greatest_made k c)) (high c) (omega (arith, high c, high_made c))
