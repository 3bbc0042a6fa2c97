-- The letters of a suit are ASCII.
use Rattle.std.proofs.Common.{◌≡◌, ℕ, ◌<◌, ◌&&◌, Bool, true, false, List, [], ◌∷◌, get_or, inl, inr, refl, arith, subst, sym}
use Rattle.std.specs.Prelude.{All, slice_index, filter, nat_lt}
use Rattle.std.specs.List.{range_with_len, list_all}
use Rattle.std.proofs.lemmas.Bool.{cases_lt, false≢true, ltb-true}
use Rattle.std.proofs.lemmas.List.{get_or_past}
use Rattle.std.proofs.lemmas.List.Elements.{All-map, All-from_get_or, All-get_or, All-cons, All-nil}
use Rattle.cards.specs.declared.suit.Suit.{Suit}
use Rattle.cards.specs.Ranks.{has_rank}
use Rattle.boards.specs.Letters.{letters, suit_letters}

abbrev Low : ℕ → Type 0
Low byte = byte < 128

both : (a b : Bool) → (a && b) ≡ true → (a ≡ true) × (b ≡ true)
both true b e = (refl, e)
both false b e = absurd (false≢true e)

low_list : (bytes : List ℕ) → list_all (λ byte. nat_lt byte 128) bytes ≡ true → All Low bytes
low_list [] e = All-nil Low
low_list (x ∷ xs) e =
    let parts = both (nat_lt x 128) (list_all (λ byte. nat_lt byte 128) xs) e in
    All-cons Low x xs (ltb-true x 128 parts.0) (low_list xs parts.1)

all_low : All Low letters
all_low = low_list letters refl

letter_low : (n : ℕ) → Low (slice_index letters n)
letter_low n =
    elim (cases_lt n 13) [
      | inl inside ↦ All-get_or Low letters n 0 inside all_low
      | inr past ↦ subst Low (sym (get_or_past letters n 0 past)) (omega arith)
    ]

pub suit_letters-ascii : (hand : List Bool) (suit : Suit) → All (λ byte. byte < 128) (suit_letters hand suit)
unfolding suit_letters
suit_letters-ascii hand suit =
    All-map Low (slice_index letters) (filter (has_rank hand suit) (range_with_len 0 13))
    (All-from_get_or (λ n. Low (slice_index letters n)) (filter (has_rank hand suit) (range_with_len 0 13)) 0
    (λ i h. letter_low (get_or (filter (has_rank hand suit) (range_with_len 0 13)) i 0)))
