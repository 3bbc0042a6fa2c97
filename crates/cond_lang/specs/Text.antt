-- What a text spells.
use Rattle.std.specs.Prelude.{ℕ, List, map}
use Rattle.cond_lang.specs.declared.scanner.Token.{Token}
use Rattle.cond_lang.specs.declared.scanner.Placed.{Placed}
use Rattle.cond_lang.specs.Cut.{HasTokens}
use Rattle.conditions.specs.Form.{Form}
use Rattle.cond_lang.specs.Definitions.{Spells}

-- the tokens without their offsets
abbrev pub kinds : List Placed → List Token
kinds placed = map (λ s. s.token) placed

-- the text has no faulty piece, and its tokens spell this tree
pub record SpellsTree (text : List ℕ) (tree : Form) : Type 0 where
  pub tokens : List Placed
  pub cut : HasTokens text tokens
  pub spells : Spells (kinds tokens) tree
