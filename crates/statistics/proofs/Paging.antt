-- The pieces of a page.
use Rattle.std.proofs.Common.{◌≡◌, ◌++◌, ◌*◌, ℕ, List, codes, refl, append_assoc}
use Rattle.std.proofs.lemmas.Bool.{ne_eqb}
use Rattle.statistics.specs.Columns.{commas}
use Rattle.statistics.specs.Page.{page_bar, shaded}
use Rattle.statistics.specs.Rounded.{fraction}

-- a cell that has a deal, and a bar of a row that has one
pub shaded_some : (most count : ℕ) → (count ≡ 0 → ⊥) → shaded most count ≡ codes "<td style=\"--share:"
    ++ fraction 2 count most ++ codes "\">" ++ commas count ++ codes "</td>"
shaded_some most count some = rw (ne_eqb count 0 some) refl

pub page_bar_some : (count most : ℕ) → (count ≡ 0 → ⊥)
    → page_bar count most ≡ codes "<i style=\"width:" ++ fraction 2 (100 * count) most ++ codes "%\"></i>"
page_bar_some count most some = rw (ne_eqb count 0 some) refl

-- pieces that were put one by one
pub three_put : (old a b c : List ℕ) → old ++ a ++ b ++ c ≡ old ++ (a ++ b ++ c)
three_put old a b c = simp append_assoc

pub five_put : (old a b c d e : List ℕ) → old ++ a ++ b ++ c ++ d ++ e ≡ old ++ (a ++ b ++ c ++ d ++ e)
five_put old a b c d e = simp append_assoc

pub nine_put : (old a b c d e f g h i : List ℕ) → old ++ a ++ b ++ c ++ d ++ e ++ f ++ g ++ h ++ i ≡ old
    ++ (a ++ b ++ c ++ d ++ e ++ f ++ g ++ h ++ i)
nine_put old a b c d e f g h i = simp append_assoc
