-- How many of the 52 cards some are.
use Rattle.std.proofs.Common.{◌≡◌, ◌∙◌, ◌<◌, ◌≤◌, ℕ, zero, suc, ◌+◌, ◌-◌, ◌*◌, ◌%◌, ◌^◌, ◌==◌, Bool, true, false}
use Rattle.std.proofs.Common.{cond, List, [], ◌∷◌, map, replicate, get_or, ap, arith, refl, sym, bit_and, max, min}
use Rattle.std.specs.Int.{bit_at}
use Rattle.std.specs.Int.RustNames.{bit_or}
use Rattle.std.specs.List.{count_by, range_with_len}
use Rattle.std.proofs.lemmas.Bool.{eqb-false, eqb-true}
use Rattle.std.proofs.lemmas.List.{get_or-replicate}
use Rattle.std.proofs.lemmas.List.FromFn.{get_or-map-range_with_len}
use Rattle.std.proofs.lemmas.List.Sums.{sum_by-cons}
use Rattle.std.proofs.lemmas.Nat.{one_shl}
use Rattle.std.proofs.lemmas.Nat.Bits.{bit_at-lt, bit_at_and, bit_at_or, bit_at-pow_same}
use Rattle.cards.specs.Given.{is_among}
use Rattle.cards.specs.Shuffle.{pack}
use Rattle.input.specs.internal.Hands.{how_many}

abbrev one : Bool → ℕ
one b = cond b 1 0

-- ---- the cards of two together

by_bits : (p q : ℕ) → p < 2 → q < 2 → one (max p q == 1) + one (min p q == 1) ≡ one (p == 1) + one (q == 1)
by_bits zero zero hp hq = refl
by_bits zero (suc zero) hp hq = refl
by_bits (suc zero) zero hp hq = refl
by_bits (suc zero) (suc zero) hp hq = refl
by_bits zero (suc (suc q)) hp hq = absurd (omega (arith, hq))
by_bits (suc zero) (suc (suc q)) hp hq = absurd (omega (arith, hq))
by_bits (suc (suc p)) q hp hq = absurd (omega (arith, hp))

at_card : (a b c : ℕ) → one (is_among (bit_or a b) c) + one (is_among (bit_and a b) c) ≡ one (is_among a c) + one (is_among b c)
at_card a b c = rw (bit_at_or a b c, bit_at_and a b c) (by_bits (bit_at a c) (bit_at b c) (bit_at-lt a c) (bit_at-lt b c))

together : (a b : ℕ) (cards : List ℕ) → count_by (is_among (bit_or a b)) cards + count_by (is_among (bit_and a b))
    cards ≡ count_by (is_among a) cards + count_by (is_among b) cards
together a b [] = refl
together a b (c ∷ cards) =
    let here = at_card a b c in
    let later = together a b cards in
    let either = sum_by-cons (λ x. one (is_among (bit_or a b) x)) c cards in
    let both = sum_by-cons (λ x. one (is_among (bit_and a b) x)) c cards in
    let left = sum_by-cons (λ x. one (is_among a x)) c cards in
    let right = sum_by-cons (λ x. one (is_among b x)) c cards in
    omega (arith, here, later, either, both, left, right)

pub at_most_both : (a b : ℕ) → how_many (bit_or a b) ≤ how_many a + how_many b
at_most_both a b = omega (arith, together a b pack)

-- ---- no card, and all of them

pub no_card : how_many 0 ≡ 0
unfolding pack
no_card = refl

pub every_card : how_many (2 ^ 52 - 1) ≡ 52
unfolding pack
every_card = refl

-- ---- one card more

abbrev card_bit : ℕ → ℕ
card_bit c = 1 * 2 ^ c % 2 ^ 64

singles : map (λ c. how_many (card_bit c)) (range_with_len 0 52) ≡ replicate 52 1
unfolding pack
singles = refl

single : (c : ℕ) → c < 52 → how_many (card_bit c) ≡ 1
single c below =
    sym (get_or-map-range_with_len (λ k. how_many (card_bit k)) 0 52 c c 0 below (omega arith))
    ∙ ap (λ l. get_or l c 0) singles ∙ get_or-replicate 52 c 1 0 below

found_next : (p : ℕ → Bool) (a n c : ℕ) → a ≤ c → c < a + suc n → p c ≡ true
    → (a + 1 ≤ c → 0 < count_by p (range_with_len (a + 1) n)) → 0 < count_by p (range_with_len a (suc n))
found_next p a n c low high passes next = by_test (a == c) refl
  where
    parts : count_by p (range_with_len a (suc n)) ≡ one (p a) + count_by p (range_with_len (a + 1) n)
    parts = sum_by-cons (λ x. one (p x)) a (range_with_len (a + 1) n)

    by_test : (b : Bool) → (a == c) ≡ b → 0 < count_by p (range_with_len a (suc n))
    by_test true e =
        let here : one (p a) ≡ 1 = rw (eqb-true a c e, passes) refl in
        omega (arith, parts, here)
    by_test false e =
        let other = eqb-false a c e in
        omega (arith, parts, next (omega (arith, low, other)))

found : (p : ℕ → Bool) (a n c : ℕ) → a ≤ c → c < a + n → p c ≡ true → 0 < count_by p (range_with_len a n)
found p a zero c low high passes = absurd (omega (arith, low, high))
found p a (suc n) c low high passes = found_next p a n c low high passes (λ above. found p (a + 1) n c above (omega (arith, high)) passes)

pub one_more_card : (cards c : ℕ) → c < 52 → how_many (bit_or cards (card_bit c)) ≤ how_many cards + 1
one_more_card cards c below = omega (arith, at_most_both cards (card_bit c), single c below)

pub same_card : (cards c : ℕ) → c < 52 → bit_at cards c ≡ 1 → how_many (bit_or cards (card_bit c)) ≤ how_many cards
unfolding pack
same_card cards c below had =
    let set : bit_at (card_bit c) c ≡ 1 = ap (λ m. bit_at m c) (one_shl c 64 (omega (arith, below))) ∙ bit_at-pow_same c in
    let both : is_among (bit_and cards (card_bit c)) c ≡ true = rw (bit_at_and cards (card_bit c) c, had, set) refl in
    let some : 0 < how_many (bit_and cards (card_bit c)) =
    found (is_among (bit_and cards (card_bit c))) 0 52 c (omega arith) (omega (arith, below)) both in
    omega (arith, together cards (card_bit c) pack, single c below, some)
