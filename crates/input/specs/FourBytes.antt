-- An input that is to give four bytes: how often it failed, and what it gave if it ended before.
use Rattle.std.specs.Prelude.{◌≡◌, ◌<◌, ℕ, ◌+◌, List, length, Option, Result, Ok, Err}
use Rattle.std.specs.Io.KnownBytes.{Consumes, IsAtEnd}
use Rattle.input.specs.declared.four_bytes.BytesFault.{BytesFault}
use Rattle.input.specs.declared.four_bytes.BytesFault.TheVariants.{Failed, Ended}

-- it failed once if that is why, and else not
abbrev pub CountsBytes : {T : Type 0} → Result T BytesFault → (old new : ℕ) → Type 0
CountsBytes (Err Failed) old new = new ≡ old + 1
CountsBytes (Err Ended) old new = new ≡ old
CountsBytes (Ok value) old new = new ≡ old

-- it gave fewer bytes than that, and is at its end
pub record EndsBefore (wanted : ℕ) (old new : Option (List ℕ)) : Type 0 where
  pub given : List ℕ
  pub few : length given < wanted
  pub consumed : Consumes old new given
  pub at_end : IsAtEnd new
