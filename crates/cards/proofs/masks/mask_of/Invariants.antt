use Rattle.std.proofs.Common.{◌≡◌, take}
use lib.Lanes.{mask_l}
use Rattle.cards.specs.Hands.{hand_of}
use Rattle.cards.proofs.masks.mask_of.Given as goal

abbrev pub invariant-loop-card : goal.invariant-loop-card
invariant-loop-card l = l.mask ≡ mask_l (take l.card (hand_of l.seats l.seat))
