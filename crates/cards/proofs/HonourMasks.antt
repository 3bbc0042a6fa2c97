-- The mask of some honours, case by case.
use Rattle.std.proofs.Common.{◌≡◌, Bool, true, false, cond, [], ◌∷◌, get_or, map, refl, ◌%◌}
use Rattle.std.specs.Int.RustNames.{bit_or}
use lib.Lanes.{mask_l}
use Rattle.cards.specs.Shuffle.{pack}

pub honours_by_case : (a k q j t : Bool)
    → bit_or (bit_or (bit_or (cond a 0x8004002001 0) (cond k 0x10008004002 0)) (cond q 0x20010008004 0))
    (bit_or (cond j 0x40020010008 0) (cond t 0x80040020010 0))
    ≡ mask_l (map (λ c. get_or (a ∷ k ∷ q ∷ j ∷ t ∷ []) (c % 13) false) pack)
unfolding pack
honours_by_case true true true true true = refl
honours_by_case true true true true false = refl
honours_by_case true true true false true = refl
honours_by_case true true true false false = refl
honours_by_case true true false true true = refl
honours_by_case true true false true false = refl
honours_by_case true true false false true = refl
honours_by_case true true false false false = refl
honours_by_case true false true true true = refl
honours_by_case true false true true false = refl
honours_by_case true false true false true = refl
honours_by_case true false true false false = refl
honours_by_case true false false true true = refl
honours_by_case true false false true false = refl
honours_by_case true false false false true = refl
honours_by_case true false false false false = refl
honours_by_case false true true true true = refl
honours_by_case false true true true false = refl
honours_by_case false true true false true = refl
honours_by_case false true true false false = refl
honours_by_case false true false true true = refl
honours_by_case false true false true false = refl
honours_by_case false true false false true = refl
honours_by_case false true false false false = refl
honours_by_case false false true true true = refl
honours_by_case false false true true false = refl
honours_by_case false false true false true = refl
honours_by_case false false true false false = refl
honours_by_case false false false true true = refl
honours_by_case false false false true false = refl
honours_by_case false false false false true = refl
honours_by_case false false false false false = refl
