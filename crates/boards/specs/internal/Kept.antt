-- How captions are kept: no part of what a caption is.
use Rattle.std.specs.Prelude.{◌≡◌, ◌≤◌, ℕ, ◌-◌, List, ◌++◌, length, replicate, take, true}
use Rattle.boards.specs.Captions.{is_caption}

-- a caption as 400 bytes, filled up with zeros
abbrev pub padded : List ℕ → List ℕ
padded text = text ++ replicate (400 - length text) 0

-- the bytes and the length of a caption
pub record IsPadded (bytes : List ℕ) (len : ℕ) : Type 0 where
  pub caption : is_caption (take len bytes) ≡ true
  pub fits : len ≤ 400
  pub count : length (take len bytes) ≡ len
  pub rest : bytes ≡ padded (take len bytes)
