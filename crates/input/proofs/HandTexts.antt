-- A hand of a Deal tag's value, byte by byte.
use Rattle.std.proofs.Common.{◌≡◌, ◌∙◌, ◌<◌, ◌≤◌, ℕ, ◌+◌, ◌-◌, ◌*◌, ◌/◌, ◌%◌, ◌^◌, ◌==◌, Bool, true, false, List, []}
use Rattle.std.proofs.Common.{◌∷◌, length, get_or, set, ◌++◌, add-one, drop, drop-cons, ap, arith, refl, sym, max}
use Rattle.std.specs.Prelude.{nat_lt, Option, None, Some, if◌then◌else◌}
use Rattle.std.specs.Int.{bit_at, w64}
use Rattle.std.specs.Int.RustNames.{bit_or}
use Rattle.std.proofs.lemmas.Bool.{and_right, eqb-false, eqb-true, lt-ltb, ne_eqb}
use Rattle.std.proofs.lemmas.Bool.Decides.{nat_tests}
use Rattle.std.proofs.lemmas.Nat.Bits.{bit_at-lt, bit_at-zero, bit_at_or, bit_at_set_other, bit_at_set_same}
use Rattle.std.proofs.lemmas.List.{drop_all, ext_get_or, get_or-set_other, get_or-set_same, length-set}
use Rattle.std.proofs.Common.{eq-eqb, take}
use Rattle.std.proofs.lemmas.List.{append-nil, drop-drop, length-drop, take-append-drop, take_all}
use Rattle.cards.specs.declared.seat.Seat.{Seat}
use Rattle.cards.specs.Given.{AreFree, is_among, with_cards}
use Rattle.cards.proofs.GivenCards.{with_cards_length, with_cards_read}
use Rattle.input.specs.DealValues.{gives, none_given, rank_in, seat_in, separator}
use Rattle.input.specs.internal.Hands.{IsHand, Steps, how_many}
use Rattle.input.proofs.HowMany.{at_most_both, every_card}

-- ---- a dot

pub dot_step : (suit cards : ℕ) → suit < 3 → Steps suit cards (46 ∷ []) (suit + 1) cards
dot_step suit cards few first p seats rest whole low count free =
    let less : nat_lt (p + suit) 15 ≡ true = lt-ltb (p + suit) 15 (omega (arith, low, few)) in
    let inner : ((p + suit) % 4 == 3) ≡ false = ne_eqb ((p + suit) % 4) 3 (λ e. omega (arith, e, whole, few)) in
    (free, rw (less, inner) (ap (λ n. gives first n (with_cards cards (seat_in first p) seats) rest) (omega arith)))

-- ---- a letter

no_letter : (last : Bool) → rank_in (if last then 32 else 46) ≡ 13
unfolding rank_in
no_letter true = refl
no_letter false = refl

not_separator : (b p : ℕ) → rank_in b < 13 → (b == separator p) ≡ false
not_separator b p below = ne_eqb b (separator p) (λ e. let is : rank_in b ≡ 13 = ap rank_in e ∙ no_letter (p % 4 == 3) in omega (arith, is, below))

abbrev card_bit : ℕ → ℕ
card_bit c = 1 * 2 ^ c % 2 ^ 64

module _ (cards c : ℕ) (below : c < 52) (was_clear : bit_at cards c ≡ 0) where
  module _ (seat : Seat) (seats : List (Option Seat)) (count : length seats ≡ 52) (free : AreFree (bit_or cards (card_bit c)) seats) where
    clear : get_or (with_cards cards seat seats) c None ≡ None
    clear = with_cards_read cards seat seats c below ∙ rw was_clear (free c (bit_at_set_same w64 cards c (omega (arith, below))))

    one_more : set (with_cards cards seat seats) c (Some seat) ≡ with_cards (bit_or cards (card_bit c)) seat seats
    one_more = ext_get_or None _ _ (length-set _ c (Some seat) ∙ with_cards_length cards seat seats
        ∙ sym (with_cards_length (bit_or cards (card_bit c)) seat seats))
        (λ i inside. let few : i < 52 = omega (
          arith,
          inside,
          length-set (with_cards cards seat seats) c (Some seat),
          with_cards_length cards seat seats,
        ) in
        by_test i few (i == c) refl ∙ sym (with_cards_read (bit_or cards (card_bit c)) seat seats i few))
      where
        by_test : (i : ℕ) → i < 52 → (b : Bool) → (i == c) ≡ b
            → get_or (set (with_cards cards seat seats) c (Some seat)) i
            None ≡ (if is_among (bit_or cards (card_bit c)) i then Some seat else get_or seats i None)
        by_test i few true e =
            rw (eqb-true i c e) (get_or-set_same (with_cards cards seat seats) c (Some seat) None
            (omega (arith, below, with_cards_length cards seat seats))
            ∙ rw (bit_at_set_same w64 cards c (omega (arith, below))) refl)
        by_test i few false e =
            let ne = eqb-false i c e in
            get_or-set_other (with_cards cards seat seats) c i (Some seat) None ne
            ∙ with_cards_read cards seat seats i few ∙ rw (bit_at_set_other w64 cards c (omega (arith, below)) i
            ne) refl

  still_free : (seats : List (Option Seat)) → AreFree (bit_or cards (card_bit c)) seats → AreFree cards seats
  still_free seats free i one = free i (bit_at_or cards (card_bit c) i ∙ ap (λ n. max n (bit_at (card_bit c) i)) one
      ∙ max_one (bit_at (card_bit c) i) (bit_at-lt (card_bit c) i))
    where
      max_one : (a : ℕ) → a < 2 → max 1 a ≡ 1
      max_one a few = grind (arith, nat_tests)

pub letter_step : (suit cards b : ℕ) → suit ≤ 3 → rank_in b < 13 → bit_at cards (13 * suit + rank_in b) ≡ 0
    → Steps suit cards (b ∷ []) suit (bit_or cards (card_bit (13 * suit + rank_in b)))
letter_step suit cards b few rank was_clear first p seats rest whole low count free =
    let c : ℕ = 13 * suit + rank_in b in
    let below : c < 52 = omega (arith, few, rank) in
    let this_suit : (p + suit) % 4 ≡ suit = omega (arith, whole, few) in
    let this_hand : (p + suit) / 4 ≡ p / 4 = omega (arith, whole, few) in
    let none = clear cards c below was_clear (seat_in first p) seats count free in
    let more = one_more cards c below was_clear (seat_in first p) seats count free in (
      still_free cards c below was_clear seats free,
      rw (and_right (nat_lt (p + suit) 15) _ (not_separator b (p + suit) rank), lt-ltb (rank_in b) 13 rank, this_suit, this_hand, none, more) refl,
    )

-- ---- bytes

-- the cards of the first i bytes
abbrev pub Partly : List ℕ → (i suit cards : ℕ) → Type 0
Partly text i suit cards =
    (first : Seat) (p : ℕ) (seats : List (Option Seat)) (rest : List ℕ) → p % 4 ≡ 0 → p ≤ 12 → length seats ≡ 52 → AreFree cards seats
    → gives first p seats (text ++ rest) ≡ gives first (p + suit) (with_cards cards (seat_in first p) seats) (drop i text ++ rest)

nobody : (seat : Seat) (seats : List (Option Seat)) → length seats ≡ 52 → with_cards 0 seat seats ≡ seats
nobody seat seats count = ext_get_or None (with_cards 0 seat seats) seats (with_cards_length 0 seat seats ∙ sym count)
    (λ c inside. with_cards_read 0 seat seats c (omega (arith, inside, with_cards_length 0 seat seats)) ∙ rw (bit_at-zero c) refl)

pub no_bytes : (text : List ℕ) → Partly text 0 0 0
no_bytes text first p seats rest whole low count free =
    ap (λ l. gives first p l (text ++ rest)) (sym (nobody (seat_in first p) seats count))
    ∙ ap (λ n. gives first n (with_cards 0 (seat_in first p) seats) (text ++ rest)) (omega arith)

pub one_byte : (text : List ℕ) (i suit cards byte next more : ℕ) → i < length text → byte ≡ get_or text i 0
    → Partly text i suit cards → Steps suit cards (byte ∷ []) next more → Partly text (i + 1) next more
one_byte text i suit cards byte next more inside is before step first p seats rest whole low count free =
    let s = step first p seats (drop (i + 1) text ++ rest) whole low count free in
    let split : drop i text ≡ byte ∷ drop (i + 1) text = drop-cons text i 0 inside ∙ rw (is, add-one) refl in
    before first p seats rest whole low count s.0
    ∙ ap (λ l. gives first (p + suit) (with_cards cards (seat_in first p) seats) (l ++ rest)) split ∙ s.1

pub all_bytes : (text : List ℕ) (i suit cards : ℕ) → length text ≤ i → suit ≡ 3 → Partly text i suit cards → IsHand cards text
all_bytes text i suit cards past three before first p seats rest whole low count free =
    before first p seats rest whole low count free
    ∙ ap (λ l. gives first (p + suit) (with_cards cards (seat_in first p) seats) (l ++ rest)) (drop_all i text past)
    ∙ ap (λ n. gives first (p + n) (with_cards cards (seat_in first p) seats) rest) three

-- ---- four hands

space_step : (first : Seat) (h : ℕ) (seats : List (Option Seat)) (rest : List ℕ) → h < 3
    → gives first (4 * h + 3) seats (32 ∷ rest) ≡ gives first (4 * (h + 1)) seats rest
space_step first h seats rest few =
    let less : nat_lt (4 * h + 3) 15 ≡ true = lt-ltb (4 * h + 3) 15 (omega (arith, few)) in
    let last : ((4 * h + 3) % 4 == 3) ≡ true = eq-eqb ((4 * h + 3) % 4) 3 (omega arith) in
    rw (less, last) (ap (λ n. gives first n seats rest) (omega arith))

hand_split : (hands : List ℕ) (h : ℕ) → length hands ≡ 67 → h < 3 → get_or hands (17 * h + 16) 0 ≡ 32
    → drop (17 * h) hands ≡ take 16 (drop (17 * h) hands) ++ 32 ∷ drop (17 * (h + 1)) hands
hand_split hands h count few space =
    let next : 17 * h + 16 + 1 ≡ 17 * (h + 1) = omega arith in
    let cons : drop (17 * h + 16) hands ≡ 32 ∷ drop (17 * h + 16 + 1) hands =
    drop-cons hands (17 * h + 16) 0 (omega (arith, count, few)) ∙ rw (space, add-one) refl in
    let later : drop 16 (drop (17 * h) hands) ≡ 32 ∷ drop (17 * (h + 1)) hands = drop-drop 16 (17 * h) hands ∙ cons
    ∙ ap (λ n. 32 ∷ drop n hands) next in
    sym (take-append-drop 16 (drop (17 * h) hands)) ∙ ap (λ l. take 16 (drop (17 * h) hands) ++ l) later

-- what the first hands give, if none of them has a card twice, nor one that another has
pub record GivenUpTo (first : Seat) (hands : List ℕ) (h : ℕ) (given : List (Option Seat)) (all : ℕ) : Type 0 where
  pub most : how_many all ≤ 13 * h
  pub read : how_many all ≡ 13 * h → gives first 0 none_given hands ≡ gives first (4 * h) given (drop (17 * h) hands)

pub next_hand : (first : Seat) (hands : List ℕ) (h n : ℕ) (old new : List (Option Seat)) (all cards : ℕ)
    → length hands ≡ 67 → h < 3 → n ≡ 16 → get_or hands (17 * h + 16) 0 ≡ 32 → how_many cards ≤ 13
    → (how_many cards ≡ 13 → (rest : List ℕ) → gives first (4 * h) old (take n (drop (17 * h) hands) ++ rest) ≡ gives first (4 * h + 3) new rest)
    → GivenUpTo first hands h old all → GivenUpTo first hands (h + 1) new (bit_or all cards)
next_hand first hands h n old new all cards count few sixteen space most hand before =
    let together = at_most_both all cards in
    record {
      most = omega (arith, together, most, before.most);
      read = λ whole.
          before.read (omega (arith, whole, together, most, before.most)) ∙ ap (gives first (4 * h) old) (hand_split hands h count few space)
          ∙ ap (λ k. gives first (4 * h) old (take k (drop (17 * h) hands) ++ 32 ∷ drop (17 * (h + 1)) hands)) (sym sixteen)
          ∙ hand (omega (arith, whole, together, most, before.most)) (32 ∷ drop (17 * (h + 1)) hands)
          ∙ space_step first h new (drop (17 * (h + 1)) hands) few;
    }

pub last_hand : (first : Seat) (hands : List ℕ) (h n : ℕ) (old new : List (Option Seat)) (all cards : ℕ)
    → length hands ≡ 67 → h ≡ 3 → n ≡ 16 → how_many cards ≤ 13
    → (how_many cards ≡ 13 → (rest : List ℕ) → gives first 12 old (take n (drop 51 hands) ++ rest) ≡ gives first 15 new rest)
    → GivenUpTo first hands h old all → bit_or all cards ≡ 2 ^ 52 - 1 → gives first 0 none_given hands ≡ Some new
last_hand first hands h n old new all cards count three sixteen most hand before whole =
    let fifty_two : how_many (bit_or all cards) ≡ 52 = ap how_many whole ∙ every_card in
    let together = at_most_both all cards in
    let at_three : gives first 0 none_given hands ≡ gives first 12 old (drop 51 hands) =
    before.read (omega (arith, three, fifty_two, together, most, before.most)) ∙ ap (λ k. gives first (4 * k) old (drop (17 * k) hands)) three in
    let rest : take n (drop 51 hands) ++ [] ≡ drop 51 hands = append-nil (take n (drop 51 hands))
    ∙ take_all n (drop 51 hands) (omega (arith, sixteen, count, length-drop 51 hands)) in
    at_three ∙ ap (gives first 12 old) (sym rest) ∙ hand (omega (arith, three, fifty_two, together, most, before.most)) []
