-- The tables of what each byte of a hand does.
use Rattle.std.proofs.Common.{◌≡◌, ◌∙◌, ◌<◌, ◌≤◌, ◌==◌, ◌++◌, ℕ, Bool, true, false, List, ◌∷◌, map, replicate, get_or, ap, arith, refl}
use Rattle.std.specs.Prelude.{if◌then◌else◌, nat_lt}
use Rattle.std.specs.List.{range_with_len}
use Rattle.std.proofs.lemmas.List.FromFn.{get_or-map-range_with_len}
use Rattle.input.specs.DealValues.{rank_in}
use Rattle.input.specs.internal.Hands.{bit_in, move_after}

abbrev pub bits : List ℕ
bits =
    (replicate 50 0 ++ 4096 ∷ 2048 ∷ 1024 ∷ 512 ∷ 256 ∷ 128 ∷ 64 ∷ 32
    ∷ (replicate 7 0 ++ 1 ∷ (replicate 8 0 ++ 8 ∷ 2 ∷ (replicate 5 0
    ++ 4 ∷ (replicate 2 0 ++ 16 ∷ replicate 171 0)))))

bits_are : bits ≡ map bit_in (range_with_len 0 256)
unfolding rank_in
bits_are = refl

pub in_bits : (byte : ℕ) → byte < 256 → get_or bits byte 0 ≡ bit_in byte
in_bits byte below = ap (λ l. get_or l byte 0) bits_are ∙ get_or-map-range_with_len bit_in 0 256 byte byte 0 below (omega arith)

abbrev pub moves : List ℕ
moves =
    (replicate 46 64 ++ 13 ∷ (replicate 3 64 ++ (replicate 8 0
    ++ (replicate 7 64 ++ 0 ∷ (replicate 8 64 ++ (replicate 2 0
    ++ (replicate 5 64 ++ 0 ∷ (replicate 2 64 ++ 0 ∷ replicate 171 64))))))))

moves_are : moves ≡ map move_after (range_with_len 0 256)
unfolding rank_in
moves_are = refl

pub in_moves : (byte : ℕ) → byte < 256 → get_or moves byte 0 ≡ move_after byte
in_moves byte below = ap (λ l. get_or l byte 0) moves_are ∙ get_or-map-range_with_len move_after 0 256 byte byte 0 below (omega arith)

within : (dot letter : Bool) → (if dot then 13 else (if letter then 0 else 64)) ≤ 64
within true letter = omega arith
within false true = omega arith
within false false = omega arith

pub at_most : (byte : ℕ) → move_after byte ≤ 64
at_most byte = within (byte == 46) (nat_lt (rank_in byte) 13)
