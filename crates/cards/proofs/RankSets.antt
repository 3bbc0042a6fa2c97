-- A suit's thirteen bits of a hand's mask are the set of its ranks.
use Rattle.std.proofs.Common.{◌≡◌, ℕ, ◌+◌, ◌*◌, ◌/◌, ◌%◌, ◌^◌, ◌<◌, ◌==◌, ◌↔◌, min, Bool, List, sym, ◌∙◌, ap, arith}
use Rattle.std.specs.Prelude.{IsTrue}
use Rattle.std.specs.Int.{bit_at}
use Rattle.std.specs.Int.RustNames.{bit_and}
use Rattle.std.proofs.lemmas.Bool.Decides.{nat_tests}
use Rattle.std.proofs.lemmas.Nat.{shr-shr}
use Rattle.std.proofs.lemmas.Nat.Bits.{bit_at-lt, bit_at_and, bit_at_ones}
use Rattle.cards.specs.declared.suit.Suit.{Suit}
use Rattle.cards.specs.Pack.{suit_number}
use Rattle.cards.specs.Hands.{holds_card}
use Rattle.cards.specs.Ranks.{has_rank}
use Rattle.cards.specs.internal.Masks.{cards_of_mask}
use Rattle.cards.proofs.MaskCounts.{card_at_mask}

pub min_one : (x : ℕ) → x < 2 → min x 1 ≡ x
min_one x h = omega arith

pub shifted_bit : (mask first i : ℕ) → bit_at (mask / 2 ^ first) i ≡ bit_at mask (first + i)
shifted_bit mask first i = ap (λ n. n % 2) (shr-shr mask first i)

set_bit : (x : ℕ) → x < 2 → (x ≡ 1) ↔ IsTrue (x == 1)
set_bit x h = grind (arith, nat_tests)

-- a bit of a suit's thirteen is 1 exactly if the hand has the rank
pub rank_bit : (mask first rank : ℕ) (hand : List Bool) (suit : Suit) → mask < 2 ^ 52 → cards_of_mask mask ≡ hand
    → first ≡ 13 * suit_number suit → rank < 13
    → (bit_at (bit_and (mask / 2 ^ first) 0x1FFF) rank ≡ 1) ↔ IsTrue (has_rank hand suit rank)
rank_bit mask first rank hand suit h view same below =
    let one : bit_at (bit_and (mask / 2 ^ first) 0x1FFF) rank ≡ bit_at mask (first + rank) =
    bit_at_and (mask / 2 ^ first) 0x1FFF rank
    ∙ ap (min (bit_at (mask / 2 ^ first) rank)) (bit_at_ones 13 rank below)
    ∙ min_one (bit_at (mask / 2 ^ first) rank) (bit_at-lt (mask / 2 ^ first) rank)
    ∙ shifted_bit mask first rank in
    let held : (bit_at mask (first + rank) == 1) ≡ has_rank hand suit rank =
    sym (card_at_mask mask (first + rank) h) ∙ ap (λ d. holds_card d (first + rank)) view ∙ ap (λ k. holds_card hand (k + rank)) same in
    rw (one, ← held) (set_bit (bit_at mask (first + rank)) (bit_at-lt mask (first + rank)))
