-- Weights below 16, as four masks: bit c of the first is the lowest bit of card c's weight.
use Rattle.std.specs.Prelude.{ℕ, ◌+◌, ◌*◌, ◌^◌, ◌<◌, List, map}
use Rattle.std.specs.Int.{bit_at}
use Rattle.cards.specs.Shuffle.{pack}

abbrev pub weight_in_masks : ℕ → ℕ → ℕ → ℕ → ℕ → ℕ
weight_in_masks ones twos fours eights c =
    bit_at ones c + 2 * bit_at twos c + 4 * bit_at fours c + 8 * bit_at eights c

unfoldable pub weights_of_masks : ℕ → ℕ → ℕ → ℕ → List ℕ
weights_of_masks ones twos fours eights = map (weight_in_masks ones twos fours eights) pack

-- each has 52 bits
pub record IsWeightMasks (ones twos fours eights : ℕ) : Type 0 where
  pub ones_below : ones < 2 ^ 52
  pub twos_below : twos < 2 ^ 52
  pub fours_below : fours < 2 ^ 52
  pub eights_below : eights < 2 ^ 52
