-- What was appended to the bytes of a sink: `Some` of the list taken so far, or `None` of a sink
-- that doesn't tell them. Appending to an untold list leaves it untold.
use Rattle.std.specs.Prelude.{◌≡◌, ◌<◌, ◌++◌, ℕ, List, length, Option}
pub use Rattle.std.specs.Io.KnownBytes.{append_known}

-- the whole text was appended
abbrev pub AppendsAll : Option (List ℕ) → Option (List ℕ) → List ℕ → Type 0
AppendsAll old new text = new ≡ append_known old text

-- a proper prefix of the text was appended
pub record AppendsPart (old new : Option (List ℕ)) (text : List ℕ) : Type 0 where
  pub front : List ℕ
  pub rest : List ℕ
  pub is_text : front ++ rest ≡ text
  pub is_proper : 0 < length rest
  pub appended : new ≡ append_known old front
