-- A suit's text, rank by rank, and its length.
use Rattle.std.proofs.Common.{◌≡◌, ℕ, ◌+◌, ◌<◌, ◌==◌, Bool, true, false, cond, List, [], ◌∷◌, ◌++◌, length}
use Rattle.std.proofs.Common.{get_or, set, take, map, inl, inr, ◌⊎◌, refl, sym, ◌∙◌, ap, arith}
use Rattle.std.specs.Prelude.{slice_index}
use Rattle.std.specs.List.{range_with_len, filter, count_by}
use Rattle.std.proofs.lemmas.List.{map-id, length-map, map-append, append_assoc, append-nil, length-append, take_more_set, take-set}
use Rattle.std.proofs.lemmas.List.FromFn.{map-range_with_len_more, get_or-map-range_with_len, fill_by_all}
use Rattle.std.proofs.lemmas.List.Elements.{filter-append}
use Rattle.std.proofs.lemmas.List.Sums.{length-filter, sum_by-cons}
use Rattle.cards.specs.declared.seat.Seat.{Seat}
use Rattle.cards.specs.declared.suit.Suit.{Suit}
use Rattle.cards.specs.declared.suit.Suit.TheVariants.{Spades, Hearts, Diamonds, Clubs}
use Rattle.cards.specs.Pack.{seat_number}
use Rattle.cards.specs.Ranks.{has_rank}
use Rattle.cards.specs.Shuffle.{pack}
use Rattle.cards.specs.Deals.{IsPartition}
use Rattle.cards.specs.Hands.{holds_card, length_of, hand_of}
use Rattle.boards.specs.Letters.{letters, suit_letters}

-- the letters of the ranks below n
unfoldable pub first_ranks : List Bool → Suit → ℕ → List ℕ
first_ranks hand suit n = map (slice_index letters) (filter (has_rank hand suit) (range_with_len 0 n))

range_more : (n : ℕ) → range_with_len 0 (n + 1) ≡ range_with_len 0 n ++ n ∷ []
range_more n = sym (map-id (range_with_len 0 (n + 1))) ∙ map-range_with_len_more (λ x. x) 0 n n (omega arith)
    ∙ ap (λ xs. xs ++ n ∷ []) (map-id (range_with_len 0 n))

one_letter : (f : ℕ → ℕ) (p : ℕ → Bool) (n : ℕ) (b : Bool) → b ≡ p n → map f (filter p (n ∷ [])) ≡ cond b (f n ∷ []) []
one_letter f p n true e = rw (← e) refl
one_letter f p n false e = rw (← e) refl

pub first_ranks-more : (hand : List Bool) (suit : Suit) (n : ℕ) (b : Bool) → b ≡ has_rank hand suit n
    → first_ranks hand suit (n + 1) ≡ first_ranks hand suit n ++ cond b (slice_index letters n ∷ []) []
unfolding first_ranks
first_ranks-more hand suit n b e =
    ap (λ xs. map (slice_index letters) (filter (has_rank hand suit) xs)) (range_more n)
    ∙ ap (map (slice_index letters)) (filter-append (has_rank hand suit) (range_with_len 0 n) (n ∷ []))
    ∙ map-append (slice_index letters) (filter (has_rank hand suit) (range_with_len 0 n)) (filter (has_rank hand suit) (n ∷ []))
    ∙ ap (λ xs. map (slice_index letters) (filter (has_rank hand suit) (range_with_len 0 n)) ++ xs)
    (one_letter (slice_index letters) (has_rank hand suit) n b e)

pub first_ranks-none : (hand : List Bool) (suit : Suit) → first_ranks hand suit 0 ≡ []
unfolding first_ranks
first_ranks-none hand suit = refl

pub first_ranks-all : (hand : List Bool) (suit : Suit) (n : ℕ) → n ≡ 13 → first_ranks hand suit n ≡ suit_letters hand suit
unfolding first_ranks suit_letters
first_ranks-all hand suit n e = rw e refl

suit_count : (hand : List Bool) (suit : Suit) → count_by (has_rank hand suit) (range_with_len 0 13) ≡ length_of hand suit
unfolding pack
suit_count hand Spades = omega arith
suit_count hand x = omega arith

pub length-suit_letters : (hand : List Bool) (suit : Suit) → length (suit_letters hand suit) ≡ length_of hand suit
unfolding suit_letters
length-suit_letters hand suit =
    simp length-map
    (length-filter (has_rank hand suit) (range_with_len 0 13) ∙ suit_count hand suit)

counted : (p : Seat → Bool) (deal : List Seat) → count_by (λ b. b) (map p deal) ≡ count_by p deal
counted p [] = refl
counted p (x ∷ xs) = sum_by-cons (λ b. cond b 1 0) (p x) (map p xs) ∙ ap (λ n. cond (p x) 1 0 + n) (counted p xs)
    ∙ sym (sum_by-cons (λ y. cond (p y) 1 0) x xs)

-- a hand of a deal has thirteen cards in its four suits
pub thirteen : (deal : List Seat) (seat : Seat) → IsPartition deal
    → length_of (hand_of deal seat) Spades + length_of (hand_of deal seat) Hearts + length_of (hand_of deal seat)
    Diamonds + length_of (hand_of deal seat) Clubs ≡ 13
unfolding pack
thirteen deal seat ok =
    let hand : List Bool = hand_of deal seat in
    let long : length hand ≡ 52 = simp length-map ok.count in
    let listed : hand ≡ map (holds_card hand) pack = fill_by_all (holds_card hand) hand 52 false long (λ k h. refl) in
    let all : count_by (λ b. b) (map (holds_card hand) pack) ≡ 13 = ap (count_by (λ b. b)) (sym listed)
    ∙ counted (λ holder. seat_number holder == seat_number seat) deal ∙ ok.thirteen seat in
    omega (arith, all)

-- what a loop reads of the ranks
pub rank_read : (hand : List Bool) (suit : Suit) (ranks : List Bool) (n : ℕ)
    → ranks ≡ map (has_rank hand suit) (range_with_len 0 13) → n < 13
    → get_or ranks n false ≡ has_rank hand suit n
rank_read hand suit ranks n e h = ap (λ xs. get_or xs n false) e ∙ get_or-map-range_with_len (has_rank hand suit) 0 13 n n false h (omega arith)

pub either : (b : Bool) → (b ≡ true) ⊎ (b ≡ false)
either true = inl refl
either false = inr refl

-- a buffer's front and the ranks below n, after the next letter is written and counted
pub one_written : (buffer front : List ℕ) (from : ℕ) (hand : List Bool) (suit : Suit) (n end new : ℕ)
    → end < length buffer → new ≡ end + 1 → take end buffer ≡ front ++ first_ranks hand suit n
    → end ≡ from + length (first_ranks hand suit n) → true ≡ has_rank hand suit n
    → (take new (set buffer end (slice_index letters n)) ≡ front ++ first_ranks hand suit (n + 1))
    × (new ≡ from + length (first_ranks hand suit (n + 1)))
one_written buffer front from hand suit n end new inside step written count held =
    let one : List ℕ = slice_index letters n ∷ [] in
    let more : first_ranks hand suit (n + 1) ≡ first_ranks hand suit n ++ one = first_ranks-more hand suit n true held in (
      ap (λ k. take k (set buffer end (slice_index letters n))) step
          ∙ take_more_set buffer end (slice_index letters n) inside ∙ ap (λ xs. xs ++ one) written
          ∙ append_assoc front (first_ranks hand suit n) one ∙ ap (λ xs. front ++ xs) (sym more),
      omega (arith, step, count, ap length more, length-append (first_ranks hand suit n) one),
    )

-- the same after a letter that is not counted
pub one_passed : (buffer front : List ℕ) (from : ℕ) (hand : List Bool) (suit : Suit) (n end new : ℕ) → new ≡ end
    → take end buffer ≡ front ++ first_ranks hand suit n → end ≡ from + length (first_ranks hand suit n)
    → false ≡ has_rank hand suit n
    → (take new (set buffer end (slice_index letters n)) ≡ front ++ first_ranks hand suit (n + 1))
    × (new ≡ from + length (first_ranks hand suit (n + 1)))
one_passed buffer front from hand suit n end new step written count held =
    let same : first_ranks hand suit (n + 1) ≡ first_ranks hand suit n = first_ranks-more hand suit n false held
    ∙ append-nil (first_ranks hand suit n) in (
      ap (λ k. take k (set buffer end (slice_index letters n))) step ∙ take-set buffer end (slice_index letters n)
          ∙ written ∙ ap (λ xs. front ++ xs) (sym same),
      omega (arith, step, count, ap length same),
    )

pub thirteen_of : (deal : List Seat) (seat : Seat) (hand : List Bool) → IsPartition deal → hand ≡ hand_of deal seat
    → length_of hand Spades + length_of hand Hearts + length_of hand Diamonds + length_of hand Clubs ≡ 13
thirteen_of deal seat hand ok is = rw is (thirteen deal seat ok)
