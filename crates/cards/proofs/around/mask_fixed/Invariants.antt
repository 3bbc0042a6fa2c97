use Rattle.std.proofs.Common.{◌≡◌, map, take}
use lib.Lanes.{mask_l}
use Rattle.cards.specs.Fixed.{is_fixed_at}
use Rattle.cards.proofs.around.mask_fixed.Given as goal

abbrev pub invariant-loop-card : goal.invariant-loop-card
invariant-loop-card l = l.mask ≡ mask_l (take l.card (map (is_fixed_at l.seat) l.seats))
