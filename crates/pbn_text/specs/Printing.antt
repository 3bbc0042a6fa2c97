-- What contracts see of a printer, whether the fast one or the reference.
use Rattle.std.specs.Prelude.{ℕ, List}
use Rattle.pbn_text.specs.Games.{HeadingView}

-- the heading of a printer, and the text that it printed last
pub record Printing : Type 0 where
  pub heading : HeadingView
  pub text : List ℕ
