-- How much the counts of a whole are together.
use Rattle.std.proofs.Common.{◌≡◌, ◌+◌, ◌*◌, ℕ, cond, List, [], ◌∷◌, arith, refl}
use Rattle.std.specs.List.{sum_by}
use Rattle.std.proofs.lemmas.List.Sums.{sum_by-cons}
use Rattle.cards.specs.declared.hand.Measure.{Measure}
use Rattle.cards.specs.declared.hand.Measure.TheVariants.{Hcp, Controls}
use Rattle.cards.specs.declared.honours.Honours.{Honours}
use Rattle.cards.specs.declared.seat.Seat.{Seat}
use Rattle.cards.specs.declared.seat.Seat.TheVariants.{North, East, South, West}
use Rattle.cards.specs.declared.suit.Suit.{Suit}
use Rattle.cards.specs.declared.suit.Suit.TheVariants.{Spades, Hearts, Diamonds, Clubs}
use Rattle.cards.specs.Counts.{has_honour}
use Rattle.cards.specs.Deals.{IsPartition}
use Rattle.cards.specs.Pack.{is_in_suit, rank_of}
use Rattle.cards.specs.Shuffle.{pack}
use Rattle.conditions.specs.declared.tree.Count.{Count}
use Rattle.conditions.specs.declared.tree.Count.TheVariants as counts
use Rattle.conditions.specs.Bounds.{least_count, rank_count}
use Rattle.conditions.specs.Form.{counted}
use Rattle.conditions.specs.Meaning.{count_in}
use Rattle.conditions.proofs.FewRows.{few_count}
use Rattle.conditions.proofs.HandBounds.{both, lengths_add}
use Rattle.conditions.proofs.ValueBounds.{count_at_most}
use Rattle.screens.specs.internal.Shares.{is_at}
use Rattle.screens.proofs.CardByCard.{counted_least, counted_most, holder}
use Rattle.screens.specs.SingleCards.{count_beside, counts_for, rank_weight, whose}
use Rattle.screens.specs.Wholes.{IsWholeOf, hand_measure, hand_shape, pack_measure, pack_ranks, suit_lengths, suit_measure, suit_ranks, total_weight}
use Rattle.screens.proofs.CountBounds.{suits_add}

-- ---- each card is at one seat

same_sum : (f g : ℕ → ℕ) → ((x : ℕ) → f x ≡ g x) → (xs : List ℕ) → sum_by f xs ≡ sum_by g xs
same_sum f g e [] = refl
same_sum f g e (x ∷ xs) = omega (arith, sum_by-cons f x xs, sum_by-cons g x xs, e x, same_sum f g e xs)

-- what the cards of a seat count
abbrev at_seat : List Seat → (ℕ → ℕ) → Seat → ℕ → ℕ
at_seat deal f q c = cond (is_at q (holder deal c)) (f c) 0

exact : (deal : List Seat) (k : Count) → IsPartition deal → least_count k ≡ 0 → count_beside k ≡ 0
    → count_in deal k ≡ sum_by (at_seat deal (counts_for k) (whose k)) pack
exact deal k ok none beside =
    omega (arith, none, beside, counted_least deal ok (counted k), counted_most deal ok (counted k))

one_seat : (n : ℕ) (q : Seat) → cond (is_at North q) n 0 + cond (is_at East q) n 0 + cond (is_at South q) n 0 + cond (is_at West q) n 0 ≡ n
one_seat n North = omega arith
one_seat n x = omega arith

shared : (deal : List Seat) (f : ℕ → ℕ)
    → sum_by (at_seat deal f North) pack + sum_by (at_seat deal f East) pack + sum_by (at_seat deal f South) pack
    + sum_by (at_seat deal f West) pack ≡ sum_by f pack
shared deal f =
    let at : Seat → ℕ → ℕ = at_seat deal f in
    omega (
      arith,
      both (at North) (at East) pack,
      both (λ c. at North c + at East c) (at South) pack,
      both (λ c. at North c + at East c + at South c) (at West) pack,
      same_sum (λ c. at North c + at East c + at South c + at West c) f (λ c. one_seat (f c) (holder deal c)) pack,
    )

-- ---- what the pack counts

suit_total : (s : Suit) → sum_by (λ c. cond (is_in_suit s c) 1 0) pack ≡ 13
unfolding pack
suit_total Spades = omega arith
suit_total x = omega arith

hcp_total : sum_by (rank_weight Hcp) pack ≡ 40
unfolding pack
hcp_total = refl

controls_total : sum_by (rank_weight Controls) pack ≡ 12
unfolding pack
controls_total = refl

suit_hcp_total : (s : Suit) → sum_by (λ c. cond (is_in_suit s c) (rank_weight Hcp c) 0) pack ≡ 10
unfolding pack
suit_hcp_total Spades = refl
suit_hcp_total x = refl

suit_controls_total : (s : Suit) → sum_by (λ c. cond (is_in_suit s c) (rank_weight Controls c) 0) pack ≡ 3
unfolding pack
suit_controls_total Spades = refl
suit_controls_total x = refl

ranks_total : (h : Honours) → sum_by (λ c. cond (has_honour h (rank_of c)) 1 0) pack ≡ 4 * rank_count h
unfolding pack
ranks_total h = omega arith

suit_ranks_total : (h : Honours) (s : Suit) → sum_by (λ c. cond (is_in_suit s c) (cond (has_honour h (rank_of c)) 1 0) 0) pack ≡ rank_count h
unfolding pack
suit_ranks_total h Spades = omega arith
suit_ranks_total h x = omega arith

-- ---- wholes

module _ (deal : List Seat) (ok : IsPartition deal) where
  -- four counts, one of each seat, that count the cards alike
  over_seats : (f : ℕ → ℕ) (n : ℕ) (a b c d : Count) → sum_by f pack ≡ n
      → count_in deal a ≡ sum_by (at_seat deal f North) pack → count_in deal b ≡ sum_by (at_seat deal f East) pack
      → count_in deal c ≡ sum_by (at_seat deal f South) pack → count_in deal d ≡ sum_by (at_seat deal f West) pack
      → count_in deal a + count_in deal b + count_in deal c + count_in deal d ≡ n
  over_seats f n a b c d all north east south west = omega (arith, shared deal f, all, north, east, south, west)

  pub by_lengths : (s : Suit) → IsWholeOf deal (suit_lengths s)
  by_lengths s =
      let k : Seat → Count = λ q. counts.Length q s in
      let all = over_seats (λ c. cond (is_in_suit s c) 1 0) 13 (k North) (k East) (k South) (k West) (suit_total s)
      (exact deal (k North) ok refl refl) (exact deal (k East) ok refl refl) (exact deal (k South) ok refl refl) (exact deal (k West) ok refl refl) in
      record { low = omega (arith, all); high = omega (arith, all) }

  pub by_ranks : (h : Honours) → IsWholeOf deal (pack_ranks h)
  by_ranks h =
      let k : Seat → Count = λ q. counts.Cards q h in
      let all = over_seats (λ c. cond (has_honour h (rank_of c)) 1 0) (4 * rank_count h) (k North) (k East) (k South) (k West) (ranks_total h)
      (exact deal (k North) ok refl refl) (exact deal (k East) ok refl refl) (exact deal (k South) ok refl refl) (exact deal (k West) ok refl refl) in
      record { low = omega (arith, all); high = omega (arith, all) }

  pub by_suit_ranks : (h : Honours) (s : Suit) → IsWholeOf deal (suit_ranks h s)
  by_suit_ranks h s =
      let k : Seat → Count = λ q. counts.SuitCards q s h in
      let all = over_seats (λ c. cond (is_in_suit s c) (cond (has_honour h (rank_of c)) 1 0) 0) (rank_count h)
      (k North) (k East) (k South) (k West) (suit_ranks_total h s)
      (exact deal (k North) ok refl refl) (exact deal (k East) ok refl refl) (exact deal (k South) ok refl refl) (exact deal (k West) ok refl refl) in
      record { low = omega (arith, all); high = omega (arith, all) }

  -- a measure that counts ranks
  by_measure : (m : Measure) → count_beside (counts.Total m North) ≡ 0
      → sum_by (rank_weight m) pack ≡ 4 * total_weight m → IsWholeOf deal (pack_measure m)
  by_measure m none whole =
      let k : Seat → Count = λ q. counts.Total m q in
      let all = over_seats (rank_weight m) (4 * total_weight m) (k North) (k East) (k South) (k West) whole
      (exact deal (k North) ok refl none) (exact deal (k East) ok refl none) (exact deal (k South) ok refl none) (exact deal (k West) ok refl none) in
      record { low = omega (arith, all); high = omega (arith, all) }

  by_suit_measure : (m : Measure) (s : Suit) → count_beside (counts.SuitTotal m North s) ≡ 0
      → sum_by (λ c. cond (is_in_suit s c) (rank_weight m c) 0) pack ≡ total_weight m → IsWholeOf deal (suit_measure m s)
  by_suit_measure m s none whole =
      let k : Seat → Count = λ q. counts.SuitTotal m q s in
      let all = over_seats (λ c. cond (is_in_suit s c) (rank_weight m c) 0) (total_weight m) (k North) (k East) (k South) (k West) whole
      (exact deal (k North) ok refl none) (exact deal (k East) ok refl none) (exact deal (k South) ok refl none) (exact deal (k West) ok refl none) in
      record { low = omega (arith, all); high = omega (arith, all) }

  pub by_hcp : IsWholeOf deal (pack_measure Hcp)
  by_hcp = by_measure Hcp refl hcp_total

  pub by_controls : IsWholeOf deal (pack_measure Controls)
  by_controls = by_measure Controls refl controls_total

  pub by_suit_hcp : (s : Suit) → IsWholeOf deal (suit_measure Hcp s)
  by_suit_hcp s = by_suit_measure Hcp s refl (suit_hcp_total s)

  pub by_suit_controls : (s : Suit) → IsWholeOf deal (suit_measure Controls s)
  by_suit_controls s = by_suit_measure Controls s refl (suit_controls_total s)

  pub by_shape : (q : Seat) → IsWholeOf deal (hand_shape q)
  by_shape q = record { low = omega (arith, lengths_add deal q ok); high = omega (arith, lengths_add deal q ok) }

  pub by_hand : (m : Measure) (q : Seat) → IsWholeOf deal (hand_measure m q)
  by_hand m q = record {
    low = omega arith;
    high = omega (arith, suits_add deal m q ok, count_at_most deal ok (counts.Total m q), few_count (counts.Total m q));
  }
