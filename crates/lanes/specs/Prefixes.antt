-- Beginnings of a list.
use Rattle.std.specs.Prelude.{◌≡◌, ◌<◌, List, length, take}
use Rattle.lanes.specs.declared.verdict.Verdict.{Verdict}

-- xs is a beginning of ys
abbrev pub IsPrefix : {A : Type 0} → List A → List A → Type 0
IsPrefix xs ys = xs ≡ take (length xs) ys

-- xs is a beginning of ys, and not the whole
abbrev pub IsProperPrefix : List Verdict → List Verdict → Type 0
IsProperPrefix xs ys = IsPrefix xs ys × (length xs < length ys)
