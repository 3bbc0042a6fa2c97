-- The letters of a set of ranks: how they are written, and that they are those of a hand's suit.
use Rattle.std.proofs.Common.{◌≡◌, ℕ, zero, suc, ◌+◌, ◌/◌, ◌<◌, ◌≤◌, ◌^◌, ◌==◌, ◌↔◌, Bool, true, false, cond, List}
use Rattle.std.proofs.Common.{[], ◌∷◌, ◌++◌, length, get_or, set, take, map, inl, inr, ◌⊎◌, refl, sym, ◌∙◌, ap, arith}
use Rattle.std.specs.Prelude.{slice_index, IsTrue}
use Rattle.std.specs.Int.{bit_at}
use Rattle.std.specs.Int.RustNames.{bit_and}
use Rattle.std.specs.List.{range_with_len, filter}
use Rattle.std.proofs.lemmas.Bool.Decides.{nat_tests}
use Rattle.std.proofs.lemmas.List.{map-id, map-append, append-nil, length-append, length-set, take_more_set, take-set}
use Rattle.std.proofs.lemmas.List.{take-set-le, take-take, take_at, get_or-set_same}
use Rattle.std.proofs.lemmas.List.Elements.{filter-append}
use Rattle.std.proofs.lemmas.List.FromFn.{map-range_with_len_more, get_or-map-range_with_len, fill_by_all}
use Rattle.std.proofs.lemmas.Nat.Bits.{shr_and_one, bit_at-lt}
use Rattle.cards.specs.declared.suit.Suit.{Suit}
use Rattle.cards.specs.declared.suit.Suit.TheVariants.{Spades}
use Rattle.cards.specs.Ranks.{has_rank, ranks_of}
use Rattle.boards.specs.Letters.{letters, suit_letters}
use Rattle.boards.specs.internal.Sets.{ranks_in, set_letters, IsEntry}

-- the letters of the ranks below n
unfoldable pub first_letters : ℕ → ℕ → List ℕ
first_letters ranks n = map (slice_index letters) (filter (has_rank (ranks_in ranks) Spades) (range_with_len 0 n))

pub first_letters-none : (ranks : ℕ) → first_letters ranks 0 ≡ []
unfolding first_letters
first_letters-none ranks = refl

first_letters-all : (ranks n : ℕ) → n ≡ 13 → first_letters ranks n ≡ set_letters ranks
unfolding first_letters suit_letters
first_letters-all ranks n e = rw e refl

range_more : (n : ℕ) → range_with_len 0 (n + 1) ≡ range_with_len 0 n ++ n ∷ []
range_more n = sym (map-id (range_with_len 0 (n + 1))) ∙ map-range_with_len_more (λ x. x) 0 n n (omega arith)
    ∙ ap (λ xs. xs ++ n ∷ []) (map-id (range_with_len 0 n))

one_letter : (p : ℕ → Bool) (n : ℕ) (b : Bool) → p n ≡ b → map (slice_index letters) (filter p (n ∷ [])) ≡ cond b (slice_index letters n ∷ []) []
one_letter p n true e = rw e refl
one_letter p n false e = rw e refl

-- whether a rank is in the set
in_set : (ranks n : ℕ) → n < 13 → has_rank (ranks_in ranks) Spades n ≡ (bit_at ranks n == 1)
unfolding ranks_in
in_set ranks n h = get_or-map-range_with_len (λ rank. bit_at ranks rank == 1) 0 13 (0 + n) n false (omega arith) (omega arith)

first_letters-more : (ranks n : ℕ) (b : Bool) → n < 13 → (bit_at ranks n == 1) ≡ b
    → first_letters ranks (n + 1) ≡ first_letters ranks n ++ cond b (slice_index letters n ∷ []) []
unfolding first_letters
first_letters-more ranks n b h e =
    ap (λ xs. map (slice_index letters) (filter (has_rank (ranks_in ranks) Spades) xs)) (range_more n)
    ∙ ap (map (slice_index letters)) (filter-append (has_rank (ranks_in ranks) Spades) (range_with_len 0 n) (n ∷ []))
    ∙ map-append (slice_index letters) (filter (has_rank (ranks_in ranks) Spades) (range_with_len 0 n))
    (filter (has_rank (ranks_in ranks) Spades) (n ∷ []))
    ∙ ap (λ xs. map (slice_index letters) (filter (has_rank (ranks_in ranks) Spades) (range_with_len 0 n)) ++ xs)
    (one_letter (has_rank (ranks_in ranks) Spades) n b (in_set ranks n h ∙ e))

one_or_none : (b : ℕ) → b < 2 → (b ≡ 1) ⊎ (b ≡ 0)
one_or_none zero h = inr refl
one_or_none (suc zero) h = inl refl
one_or_none (suc (suc b)) h = absurd (omega arith)

-- the letters of the ranks below n, after the next one is written, and counted if the set has it
pub next_rank : (entry : List ℕ) (ranks n end new : ℕ) → n < 13 → end < length entry
    → new ≡ end + bit_and (ranks / 2 ^ n) 1 → take end entry ≡ first_letters ranks n
    → end ≡ length (first_letters ranks n)
    → (take new (set entry end (slice_index letters n)) ≡ first_letters ranks (n + 1)) × (new ≡ length (first_letters ranks (n + 1)))
next_rank entry ranks n end new h room step written count =
    let bit : bit_and (ranks / 2 ^ n) 1 ≡ bit_at ranks n = shr_and_one ranks n in
    let letter : ℕ = slice_index letters n in
    elim (one_or_none (bit_at ranks n) (bit_at-lt ranks n)) [
      | inl one ↦
          let more : first_letters ranks (n + 1) ≡ first_letters ranks n ++ letter ∷ [] = first_letters-more ranks n true h (ap (λ b. b == 1) one) in
          let after : new ≡ end + 1 = omega (arith, step, bit, one) in (
            ap (λ k. take k (set entry end letter)) after ∙ take_more_set entry end letter room ∙ ap (λ xs. xs ++ letter ∷ []) written ∙ sym more,
            omega (arith, after, count, ap length more, length-append (first_letters ranks n) (letter ∷ [])),
          )
      | inr none ↦
          let same : first_letters ranks (n + 1) ≡ first_letters ranks n =
          first_letters-more ranks n false h (ap (λ b. b == 1) none) ∙ append-nil (first_letters ranks n) in
          let after : new ≡ end = omega (arith, step, bit, none) in (
            ap (λ k. take k (set entry end letter)) after ∙ take-set entry end letter ∙ written ∙ sym same,
            omega (arith, after, count, ap length same),
          )
    ]

-- the letters of all ranks, after the dot and their number are written
pub whole_entry : (entry : List ℕ) (ranks n end : ℕ) → n ≡ 13 → length entry ≡ 16 → end ≤ n
    → take end entry ≡ first_letters ranks n → end ≡ length (first_letters ranks n)
    → IsEntry ranks (set (set entry end 0x2E) 15 end)
whole_entry entry ranks n end all full few written count =
    let whole : first_letters ranks n ≡ set_letters ranks = first_letters-all ranks n all in
    let dotted : List ℕ = set entry end 0x2E in
    let long : length dotted ≡ 16 = simp length-set full in
    let len : get_or (set dotted 15 end) 15 0 ≡ end = get_or-set_same dotted 15 end 0 (omega (arith, long)) in
    record {
      size = simp length-set full;
      max = omega (arith, len);
      len = omega (arith, len, count, ap length whole);
      text = ap (λ k. take (k + 1) (set dotted 15 end)) len
          ∙ take-set-le (end + 1) dotted 15 end (omega arith)
          ∙ take_more_set entry end 0x2E (omega arith)
          ∙ ap (λ xs. xs ++ 0x2E ∷ []) (written ∙ whole);
    }

-- without the last byte
pub less_one : (bytes front : List ℕ) (last n : ℕ) → take (n + 1) bytes ≡ front ++ last ∷ [] → n ≡ length front → take n bytes ≡ front
less_one bytes front last n written long = sym (take-take n (n + 1) bytes (omega arith)) ∙ ap (take n) written
    ∙ take_at front (last ∷ []) n (sym long)

-- a set of ranks that a hand has in a suit
test_is : (bit : ℕ) (held : Bool) → (bit ≡ 1) ↔ IsTrue held → held ≡ (bit == 1)
test_is bit true h = sym (ap (λ b. b == 1) (h.1 refl))
test_is bit false h = grind (arith, nat_tests, h.0)

ranks_back : (ranks : ℕ) (hand : List Bool) (suit : Suit)
    → ((rank : ℕ) → rank < 13 → (bit_at ranks rank ≡ 1) ↔ IsTrue (has_rank hand suit rank))
    → ranks_in ranks ≡ ranks_of hand suit
unfolding ranks_in
ranks_back ranks hand suit is =
    sym (fill_by_all (λ rank. bit_at ranks rank == 1) (ranks_of hand suit) 13 false refl
    (λ k h. get_or-map-range_with_len (has_rank hand suit) 0 13 k k false h (omega arith) ∙ test_is (bit_at ranks k) (has_rank hand suit k) (is k h)))

alone : (hand : List Bool) (suit : Suit) → suit_letters (ranks_of hand suit) Spades ≡ suit_letters hand suit
unfolding suit_letters
alone hand suit = refl

-- the letters of the set of ranks that a hand has in a suit are the suit's
pub set_letters-of : (ranks : ℕ) (hand : List Bool) (suit : Suit)
    → ((rank : ℕ) → rank < 13 → (bit_at ranks rank ≡ 1) ↔ IsTrue (has_rank hand suit rank))
    → set_letters ranks ≡ suit_letters hand suit
set_letters-of ranks hand suit is = ap (λ xs. suit_letters xs Spades) (ranks_back ranks hand suit is) ∙ alone hand suit
