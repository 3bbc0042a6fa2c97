-- The table of bytes that stand for themselves.
use Rattle.std.proofs.Common.{◌≡◌, ◌∙◌, ◌<◌, ◌++◌, ℕ, Bool, true, false, List, ◌∷◌, map, replicate, get_or, ap, arith, refl}
use Rattle.std.specs.List.{range_with_len}
use Rattle.std.proofs.lemmas.List.FromFn.{get_or-map-range_with_len}
use Rattle.input.specs.internal.TagTexts.{is_plain}

abbrev pub table : List Bool
table =
    replicate 10 true ++ false ∷ true ∷ true ∷ false ∷ (replicate 20 true ++ false ∷ (replicate 57 true ++ false ∷ replicate 163 true))

table_is : table ≡ map is_plain (range_with_len 0 256)
table_is = refl

pub in_table : (byte : ℕ) → byte < 256 → get_or table byte false ≡ is_plain byte
in_table byte below = ap (λ l. get_or l byte false) table_is ∙ get_or-map-range_with_len is_plain 0 256 byte byte false below (omega arith)
