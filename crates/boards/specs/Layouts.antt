-- How a notation lays a text out: what comes before the boards, the text of each board, and what
-- comes after them.
use Rattle.std.specs.Prelude.{◌≡◌, ℕ, List}
use Rattle.boards.specs.declared.board.Board.{Board}
use Rattle.boards.specs.TricksLines.{TricksView}

pub record Layout : Type 0 where
  pub header : List ℕ
  pub board : Board → List ℕ
  -- of these boards, and of how many candidates were tried
  pub footer : List Board → ℕ → List ℕ

-- the footer of a notation that has the same one after all boards
abbrev pub ends_with : List ℕ → List Board → ℕ → List ℕ
ends_with text boards tried = text

-- the footer doesn't depend on how many candidates were tried
abbrev pub EndsAlike : Layout → Type 0
EndsAlike layout = (boards : List Board) (m n : ℕ) → layout.footer boards m ≡ layout.footer boards n

-- the same where each board has what is known of its tricks
pub record SolvedLayout : Type 0 where
  pub header : List ℕ
  pub board : TricksView → Board → List ℕ
  pub footer : List ℕ
