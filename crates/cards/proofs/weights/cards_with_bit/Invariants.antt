use Rattle.std.proofs.Common.{◌≡◌, ◌==◌, map, take}
use Rattle.std.specs.Int.{bit_at}
use lib.Lanes.{mask_l}
use Rattle.cards.proofs.weights.cards_with_bit.Given as goal

abbrev pub invariant-loop-card : goal.invariant-loop-card
invariant-loop-card l = l.mask ≡ mask_l (take l.card (map (λ w. bit_at w l.bit == 1) l.weights))
