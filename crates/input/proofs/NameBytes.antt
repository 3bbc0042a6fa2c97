-- The table of bytes that a name may have.
use Rattle.std.proofs.Common.{◌≡◌, ◌∙◌, ◌<◌, ◌++◌, ℕ, Bool, true, false, List, ◌∷◌, map, replicate, get_or, ap, arith, refl}
use Rattle.std.specs.List.{range_with_len}
use Rattle.std.proofs.lemmas.List.FromFn.{get_or-map-range_with_len}
use Rattle.input.specs.Places.{is_name_byte}

abbrev pub table : List Bool
table =
    replicate 48 false ++ (replicate 10 true ++ (replicate 7 false ++ (replicate 26 true
    ++ (replicate 4 false ++ true ∷ false ∷ (replicate 26 true ++ replicate 133 false)))))

table_is : table ≡ map is_name_byte (range_with_len 0 256)
table_is = refl

pub in_table : (byte : ℕ) → byte < 256 → get_or table byte false ≡ is_name_byte byte
in_table byte below = ap (λ l. get_or l byte false) table_is ∙ get_or-map-range_with_len is_name_byte 0 256 byte byte false below (omega arith)
