-- What a sink over a writer of std tells of its bytes.
use Rattle.std.specs.Prelude.{ℕ, List, Option, None, is_some, if◌then◌else◌}

-- what the writer holds now, if it told that from the first on; else nothing
abbrev pub told : {W : Type 0} → (W → Option (List ℕ)) → W → W → Option (List ℕ)
told contents first writer = if is_some (contents first) then contents writer else None
