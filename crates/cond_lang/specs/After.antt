-- Texts that are definitions alone, and texts that are read after one: as if the definitions, a
-- new line and the text were one text.
use Rattle.std.specs.Prelude.{◌≡◌, ℕ, ◌+◌, ◌-◌, ◌<◌, ◌≤◌, List, [], ◌∷◌, ◌++◌, length}
use Rattle.cond_lang.specs.declared.scanner.Placed.{Placed}
use Rattle.cond_lang.specs.declared.scanner.Token.{Token}
use Rattle.conditions.specs.declared.error.CondError.{CondError}
use Rattle.conditions.specs.declared.error.CondError.TheVariants.{TooLong, Byte, Word, Number, Syntax, TooManyParts, Memory}
use Rattle.conditions.specs.Limits.{parts_of}
use Rattle.conditions.specs.Questions.{parts_asked}
use Rattle.cond_lang.specs.Asking.{Asks}
use Rattle.cond_lang.specs.Cut.{HasTokens}
use Rattle.cond_lang.specs.Definitions.{AreDefinitions, Spells}
use Rattle.cond_lang.specs.Faults.{HasFault, HasSyntaxFaultIn, IsDueIn}
use Rattle.cond_lang.specs.Grammar.{Meanings}
use Rattle.cond_lang.specs.Text.{kinds}

-- ---- definitions alone

-- the whole list is definitions of these names
abbrev pub Defines : List Token → Meanings → Type 0
Defines T N = AreDefinitions [] T N

-- the text has no faulty piece, and its tokens are definitions
pub record GivesNames (text : List ℕ) : Type 0 where
  pub tokens : List Placed
  pub cut : HasTokens text tokens
  pub names : Meanings
  pub gives : Defines (kinds tokens) names

-- a text of definitions alone is refused only when that is due
abbrev pub IsDueAlone : List ℕ → CondError → Type 0
IsDueAlone text TooLong = 4096 < length text
IsDueAlone text (Byte at) = HasFault text (Byte at)
IsDueAlone text (Word at) = HasFault text (Word at)
IsDueAlone text (Number at) = HasFault text (Number at)
IsDueAlone text (Syntax at) = HasSyntaxFaultIn Defines text at
IsDueAlone text TooManyParts = ⊥
IsDueAlone text Memory = Unit {0}

-- ---- texts after definitions

-- the definitions, a new line, and the text
abbrev pub text_after : List ℕ → List ℕ → List ℕ
text_after definitions text = definitions ++ 10 ∷ text

-- where the text begins there
abbrev pub start_after : List ℕ → ℕ
start_after definitions = length definitions + 1

-- a fault's offset is counted from the start
abbrev pub counted_from : ℕ → CondError → CondError
counted_from start TooLong = TooLong
counted_from start (Byte at) = Byte (at - start)
counted_from start (Word at) = Word (at - start)
counted_from start (Number at) = Number (at - start)
counted_from start (Syntax at) = Syntax (at - start)
counted_from start TooManyParts = TooManyParts
counted_from start Memory = Memory

-- a fault's offset, where it has one, is not before the start
abbrev pub IsFrom : ℕ → CondError → Type 0
IsFrom start (Byte at) = start ≤ at
IsFrom start (Word at) = start ≤ at
IsFrom start (Number at) = start ≤ at
IsFrom start (Syntax at) = start ≤ at
IsFrom start _ = Unit {0}

-- a text after definitions is refused only when that is due: the text itself is too long, or the
-- definitions, a new line and the text are refused by the rules S
abbrev pub IsDueAfterIn :
    {A : Type 0} → (List Token → A → Type 0) → (A → ℕ) → (definitions text : List ℕ) → CondError
    → Type 0
IsDueAfterIn S parts definitions text TooLong = 1024 < length text
IsDueAfterIn S parts definitions text e =
    (f : CondError) × IsDueIn S parts (text_after definitions text) f
    × (e ≡ counted_from (start_after definitions) f)

-- the same of conditions, and of questions
abbrev pub IsDueAfter : (definitions text : List ℕ) → CondError → Type 0
IsDueAfter definitions text e = IsDueAfterIn Spells parts_of definitions text e

abbrev pub IsDueQuestionAfter : (definitions text : List ℕ) → CondError → Type 0
IsDueQuestionAfter definitions text e = IsDueAfterIn Asks parts_asked definitions text e
