-- A mask below 2 ^ 52 and the list of its cards give each other.
use Rattle.std.proofs.Common.{◌≡◌, ℕ, ◌^◌, ◌<◌, ◌==◌, Bool, false, cond, map, ◌∙◌, ap, arith}
use Rattle.std.specs.Int.{bit_at}
use Rattle.std.specs.List.{range_with_len}
use Rattle.std.proofs.lemmas.Bool.Decides.{nat_tests}
use Rattle.std.proofs.lemmas.List.FromFn.{get_or-map-range_with_len}
use Rattle.std.proofs.lemmas.Nat.Bits.{same_from_bits_below, bit_at-lt}
use Rattle.std.proofs.lemmas.Simd.{mask_l-lt, bit_mask_l}
use lib.Lanes.{mask_l}
use Rattle.cards.specs.Shuffle.{pack}
use Rattle.cards.specs.internal.Masks.{cards_of_mask}

pub test_bit : (b : ℕ) → b < 2 → cond (b == 1) 1 0 ≡ b
test_bit b h = grind (arith, nat_tests)

-- a bit of a list over the pack
pub bit_at_pack : (p : ℕ → Bool) (i : ℕ) → i < 52 → bit_at (mask_l (map p pack)) i ≡ cond (p i) 1 0
unfolding pack
bit_at_pack p i h =
    bit_mask_l (map p (range_with_len 0 52)) i
    ∙ ap (λ b. cond b 1 0) (get_or-map-range_with_len p 0 52 i i false h (omega arith))

pub mask-pack-lt : (p : ℕ → Bool) → mask_l (map p pack) < 2 ^ 52
unfolding pack
mask-pack-lt p = mask_l-lt (map p (range_with_len 0 52))

-- two masks of 52 bits with the same bits
pub same_masks : (a b : ℕ) → a < 2 ^ 52 → b < 2 ^ 52
    → ((i : ℕ) → i < 52 → bit_at a i ≡ bit_at b i)
    → a ≡ b
same_masks a b p q at = same_from_bits_below 52 a b p q at

pub mask_of_cards : (mask : ℕ) → mask < 2 ^ 52 → mask_l (cards_of_mask mask) ≡ mask
unfolding cards_of_mask
mask_of_cards mask h =
    let is_set : ℕ → Bool = λ c. bit_at mask c == 1 in
    same_masks _ mask (mask-pack-lt is_set) h
    (λ i below. bit_at_pack is_set i below ∙ test_bit (bit_at mask i) (bit_at-lt mask i))
