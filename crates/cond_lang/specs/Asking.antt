-- What question a text asks: a whole condition, or a whole value. Where it goes wrong is the first
-- token such that those before it begin a condition or a value, and with it they begin none.
use Rattle.std.specs.Prelude.{ℕ, List}
use Rattle.cond_lang.specs.declared.scanner.Placed.{Placed}
use Rattle.cond_lang.specs.declared.scanner.Token.{Token}
use Rattle.cond_lang.specs.declared.words.Kind.{Kind}
use Rattle.conditions.specs.declared.error.CondError.{CondError}
use Rattle.conditions.specs.Questions.{Question, asks_condition, asks_value, parts_asked}
use Rattle.cond_lang.specs.Continuations.{CanFollowIn, IsBeginningIn}
use Rattle.cond_lang.specs.Cut.{HasTokens}
use Rattle.cond_lang.specs.Definitions.{Spells, SpellsAmount}
use Rattle.cond_lang.specs.Faults.{HasSyntaxFaultIn, IsDueIn, IsFirstFaultIn, IsViableIn}
use Rattle.cond_lang.specs.Text.{kinds}

-- the whole list is one condition, or one value, behind its definitions
abbrev pub Asks : List Token → Question → Type 0
Asks T (asks_condition tree) = Spells T tree
Asks T (asks_value value) = SpellsAmount T value

-- the text has no faulty piece, and its tokens ask this question
pub record SpellsQuestion (text : List ℕ) (question : Question) : Type 0 where
  pub tokens : List Placed
  pub cut : HasTokens text tokens
  pub asks : Asks (kinds tokens) question

-- some question begins with the list
abbrev pub IsAskViable : List Token → Type 0
IsAskViable T = IsViableIn Asks T

-- n is the first token that no question goes on with, or the end
abbrev pub IsFirstAskFault : List Token → ℕ → Type 0
IsFirstAskFault T n = IsFirstFaultIn Asks T n

-- the text has no faulty piece, its tokens ask nothing, and this is where they go wrong
abbrev pub HasAskFault : List ℕ → ℕ → Type 0
HasAskFault text at = HasSyntaxFaultIn Asks text at

-- a question is refused only when that is due
abbrev pub IsDueQuestion : List ℕ → CondError → Type 0
IsDueQuestion text e = IsDueIn Asks parts_asked text e

-- after T the list may end, since T is a question, or some token of the kind goes on to one
abbrev pub CanFollowAsking : List Token → Kind → Type 0
CanFollowAsking T k = CanFollowIn Asks T k

-- T is the longest beginning of the text's tokens that a question goes on with
abbrev pub IsAskBeginning : List ℕ → List Token → Type 0
IsAskBeginning text T = IsBeginningIn Asks text T
