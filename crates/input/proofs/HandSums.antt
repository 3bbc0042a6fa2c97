-- A hand of a Deal tag's value, by what each of its bytes does.
use Rattle.std.proofs.Common.{◌≡◌, ◌∙◌, ◌<◌, ◌≤◌, ℕ, zero, suc, ◌+◌, ◌*◌, ◌%◌, ◌^◌, ◌==◌, Bool, true, false, List}
use Rattle.std.proofs.Common.{length, get_or, ap, arith, refl, sym}
use Rattle.std.specs.Prelude.{nat_lt}
use Rattle.std.specs.Int.Bits.{or_zero_r}
use Rattle.std.specs.Int.RustNames.{bit_or}
use Rattle.std.proofs.lemmas.Bool.{eqb-true, ltb-true}
use Rattle.std.proofs.Math.Pow.{pow-lt}
use Rattle.std.proofs.lemmas.Nat.{one_shl, or_lt, pow-add}
use Rattle.input.specs.DealValues.{rank_in}
use Rattle.std.specs.Int.{bit_at}
use Rattle.std.proofs.lemmas.Bool.{eqb-false}
use Rattle.std.proofs.lemmas.Nat.Bits.{bit_at-lt}
use Rattle.input.specs.internal.Hands.{bit_in, how_many, move_after}
use Rattle.input.proofs.HowMany.{no_card, one_more_card, same_card}
use Rattle.input.proofs.HandTexts.{Partly, dot_step, letter_step, no_bytes, one_byte}

-- these are the cards of the first i bytes, up to a suit; fewer than letters if one was read twice
pub record Reached (text : List ℕ) (i suit cards : ℕ) : Type 0 where
  pub small : cards < 2 ^ 52
  pub most : how_many cards + suit ≤ i
  pub read : how_many cards + suit ≡ i → Partly text i suit cards

-- where the place is that of a suit, the bytes gave these cards up to that suit
abbrev pub Summed : List ℕ → (i place cards : ℕ) → Type 0
Summed text i place cards = (suit : ℕ) → suit ≤ 3 → place ≡ 13 * suit → Reached text i suit cards

pub summed_none : (text : List ℕ) → Summed text 0 0 0
summed_none text zero few at_suit = record { small = omega arith; most = omega (arith, no_card); read = λ all. no_bytes text }
summed_none text (suc suit) few at_suit = absurd (let no : 0 ≡ 13 * suc suit = at_suit in omega (arith, no))

-- the bit of byte that moves to a place
abbrev at_place : (bit place : ℕ) → ℕ
at_place bit place = bit * 2 ^ (place % 64) % 2 ^ 64

abbrev card_bit : ℕ → ℕ
card_bit c = 1 * 2 ^ c % 2 ^ 64

no_dot_bit : bit_in 46 ≡ 0
unfolding rank_in
no_dot_bit = refl

by_dot : (text : List ℕ) (i suit cards byte : ℕ) → i < length text → byte ≡ get_or text i 0 → byte ≡ 46 → suit < 3
    → Partly text i suit cards → Partly text (i + 1) (suit + 1) cards
by_dot text i suit cards byte inside is dot few before =
    one_byte text i suit cards 46 (suit + 1) cards inside (sym dot ∙ is) before (dot_step suit cards few)

moved_bit : (suit rank place : ℕ) → suit ≤ 3 → place ≡ 13 * suit → at_place (2 ^ rank) place ≡ card_bit (13 * suit + rank)
moved_bit suit rank place few at_suit =
    let low : place % 64 ≡ 13 * suit = omega (arith, few, at_suit) in
    let one : 1 * 2 ^ (13 * suit + rank) ≡ 2 ^ (13 * suit + rank) = omega arith in
    let order : 13 * suit + rank ≡ rank + 13 * suit = omega arith in
    rw (low, one, order) (ap (λ n. n % 2 ^ 64) (sym (pow-add 2 rank (13 * suit))))

module _ (text : List ℕ) (i place cards byte bit move : ℕ) (inside : i < length text) (is : byte ≡ get_or text i 0)
    (bit_is : bit ≡ bit_in byte) (move_is : move ≡ move_after byte)
    (before : Summed text i place cards) where
  letter : (suit : ℕ) → suit ≤ 3 → place + move ≡ 13 * suit → (byte == 46) ≡ false → nat_lt (rank_in byte) 13 ≡ true
      → Reached text (i + 1) suit (bit_or cards (at_place bit place))
  letter suit few at_suit other is_letter =
      rw card (record {
        small = or_lt 52 cards _ old.small small;
        most = omega (arith, old.most, more);
        read = λ all. by_bit (bit_at cards (13 * suit + rank_in byte) == 1) refl all;
      })
    where
      rank : rank_in byte < 13
      rank = ltb-true (rank_in byte) 13 is_letter

      here : place ≡ 13 * suit
      here = let stays : move ≡ 0 = move_is ∙ rw (other, is_letter) refl in omega (arith, at_suit, stays)

      old : Reached text i suit cards
      old = before suit few here

      card : at_place bit place ≡ card_bit (13 * suit + rank_in byte)
      card = let bits : bit ≡ 2 ^ rank_in byte = bit_is ∙ rw is_letter refl in ap (λ b. at_place b place) bits
          ∙ moved_bit suit (rank_in byte) place few here

      below : 13 * suit + rank_in byte < 52
      below = omega (arith, few, rank)

      small : card_bit (13 * suit + rank_in byte) < 2 ^ 52
      small = rw (one_shl (13 * suit + rank_in byte) 64 (omega (arith, below))) (pow-lt below)

      more : how_many (bit_or cards (card_bit (13 * suit + rank_in byte))) ≤ how_many cards + 1
      more = one_more_card cards (13 * suit + rank_in byte) below

      by_bit : (had : Bool) → (bit_at cards (13 * suit + rank_in byte) == 1) ≡ had
          → how_many (bit_or cards (card_bit (13 * suit + rank_in byte))) + suit ≡ i + 1
          → Partly text (i + 1) suit (bit_or cards (card_bit (13 * suit + rank_in byte)))
      by_bit true e all =
          let none_more = same_card cards (13 * suit + rank_in byte) below (eqb-true _ 1 e) in
          absurd (omega (arith, old.most, all, none_more))
      by_bit false e all =
          let clear : bit_at cards (13 * suit + rank_in byte) ≡ 0 = let ne = eqb-false _ 1 e in
          omega (arith, ne, bit_at-lt cards (13 * suit + rank_in byte)) in
          one_byte text i suit cards byte suit _ inside is (old.read (omega (arith, old.most, all, more)))
          (letter_step suit cards byte few rank clear)

  dot : (suit : ℕ) → suit ≤ 3 → place + move ≡ 13 * suit → (byte == 46) ≡ true → Reached text (i + 1) suit (bit_or cards (at_place bit place))
  dot zero few at_suit is_dot = absurd (let moved : move ≡ 13 = move_is ∙ rw is_dot refl in omega (arith, at_suit, moved))
  dot (suc suit) few at_suit is_dot =
      let moved : move ≡ 13 = move_is ∙ rw is_dot refl in
      let forty_six : byte ≡ 46 = eqb-true byte 46 is_dot in
      let none : bit ≡ 0 = bit_is ∙ ap bit_in forty_six ∙ no_dot_bit in
      let nothing : 0 * 2 ^ (place % 64) % 2 ^ 64 ≡ 0 = omega arith in
      let old = before suit (omega (arith, few)) (omega (arith, at_suit, moved)) in
      let next : suit + 1 ≡ suc suit = omega arith in
      let later : Reached text (i + 1) (suit + 1) cards = record {
        small = old.small;
        most = omega (arith, old.most);
        read = λ all. by_dot text i suit cards byte inside is forty_six (omega (arith, few)) (old.read (omega (arith, all)));
      } in
      rw (none, nothing, or_zero_r cards, ← next) later

  pub summed_byte : Summed text (i + 1) (place + move) (bit_or cards (at_place bit place))
  summed_byte suit few at_suit = by_byte (byte == 46) (nat_lt (rank_in byte) 13) refl refl
    where
      by_byte : (d l : Bool) → (byte == 46) ≡ d → nat_lt (rank_in byte) 13 ≡ l → Reached text (i + 1) suit (bit_or cards (at_place bit place))
      by_byte true l is_dot is_letter = dot suit few at_suit is_dot
      by_byte false true other is_letter = letter suit few at_suit other is_letter
      by_byte false false other no_letter = absurd (let far : move ≡ 64 = move_is ∙ rw (other, no_letter) refl in omega (arith, at_suit, far, few))
