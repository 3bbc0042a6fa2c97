-- The formats, by their names.
use Rattle.std.specs.Prelude.{ℕ, Bool, true, false, List, [], ◌∷◌, codes}
use Rattle.boards.specs.declared.format.Format.{Format}
use Rattle.boards.specs.declared.format.Format.TheVariants.{Pbn, Hands, Lin, Html, Sheet, Slips, Json}
use Rattle.boards.specs.declared.format.Format.TheVariants.{Numbers}

-- the formats that are asked for by a name
abbrev pub formats : List (List ℕ × Format)
formats =
    (codes "pbn", Pbn) ∷ (codes "hands", Hands) ∷ (codes "lin", Lin) ∷ (codes "html", Html)
    ∷ (codes "sheet", Sheet) ∷ (codes "slips", Slips) ∷ (codes "json", Json) ∷ []

-- the boards of all but one have numbers of their own
abbrev pub numbers_boards : Format → Bool
numbers_boards Numbers = false
numbers_boards _ = true
