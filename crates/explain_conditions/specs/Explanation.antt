-- What is written of a refusal, below the line that names it.
use Rattle.std.specs.Prelude.{◌≡◌, ◌⊎◌, ◌↔◌, ℕ, Bool, IsTrue, ◌<◌, List, [], ◌++◌, codes, decimal}
use Rattle.std.specs.Prelude.{length, map}
use Rattle.conditions.specs.declared.error.CondError.{CondError}
use Rattle.conditions.specs.declared.error.CondError.TheVariants.{TooLong, Byte, Word, Number}
use Rattle.conditions.specs.declared.error.CondError.TheVariants.{Syntax, TooManyParts, Memory}
use Rattle.cond_lang.specs.declared.words.Kind.{Kind}
use Rattle.cond_lang.specs.declared.words.Kind.TheVariants as kind
use Rattle.cond_lang.specs.declared.scanner.Token.{Token}
use Rattle.cond_lang.specs.Faults.{HasFault}
use Rattle.cond_lang.specs.Continuations.{ends_with_let}
use Rattle.cond_lang.specs.Cut.{HasNames}
use Rattle.explain_conditions.specs.declared.asked.TextKind.{TextKind}
use Rattle.explain_conditions.specs.declared.asked.TextKind.TheVariants.{Condition, Question}
use Rattle.explain_conditions.specs.Asked.{Begins, CanStand, IsOfValue, IsTold, asked_name}
use Rattle.sinks.specs.Shown.{shown}
use Rattle.explain_conditions.specs.Excerpt.{IsExcerpt}
use Rattle.explain_conditions.specs.Expected.{expected_line}

-- a hint is one line of bytes that are shown
abbrev pub hint_line : List ℕ → List ℕ
hint_line bytes = codes "  hint: " ++ map shown bytes ++ codes "\n"

-- nothing, or a hint
abbrev pub MayHint : List ℕ → Type 0
MayHint written = (written ≡ []) ⊎ ((bytes : List ℕ) × (written ≡ hint_line bytes))

-- the line of all kinds that may come after the longest beginning of the text, and of its names,
-- and no other
pub record TellsAll (asked : TextKind) (text written : List ℕ) : Type 0 where
  pub beginning : List Token
  pub begins : Begins asked text beginning
  pub names : List (List ℕ)
  pub has : HasNames text names
  pub can : Kind → Bool
  pub all : (k : Kind) → IsTold (length names) k → IsTrue (can k) ↔ CanStand asked beginning k
  pub is_value : Kind → Bool
  pub values : (n : ℕ) → n < length names → IsOfValue beginning n (is_value (kind.Name n))
  pub is : written ≡ expected_line (ends_with_let beginning) names is_value can

-- the text is too long, or has a piece that isn't in the language
abbrev pub IsFaulty : List ℕ → Type 0
IsFaulty text = (1024 < length text) ⊎ ((fault : CondError) × HasFault text fault)

-- what may come there; nothing of a text that has no tokens
abbrev pub MayTell : TextKind → List ℕ → List ℕ → Type 0
MayTell asked text written = TellsAll asked text written ⊎ ((written ≡ []) × IsFaulty text)

-- the excerpt of the text, then what may come there, then perhaps a hint
pub record Shows (Expects : List ℕ → Type 0) (text : List ℕ) (at : ℕ) (written : List ℕ)
    : Type 0 where
  pub excerpt : List ℕ
  pub expected : List ℕ
  pub hint : List ℕ
  pub is : written ≡ excerpt ++ expected ++ hint
  pub shows : IsExcerpt text at excerpt
  pub expects : Expects expected
  pub hints : MayHint hint

-- nothing is said of what may come there
abbrev pub Nothing : List ℕ → Type 0
Nothing written = written ≡ []

-- the hint for a text that is too long
abbrev pub length_line : TextKind → List ℕ → List ℕ
length_line asked text =
    codes "  hint: a " ++ asked_name asked ++ codes " has at most 1024 bytes, and this one has "
    ++ decimal (length text) ++ codes "\n"

-- what is written of a text that is refused so, where it was read as what was asked for
abbrev pub ExplainsAs : TextKind → List ℕ → CondError → List ℕ → Type 0
ExplainsAs asked text TooLong written = written ≡ length_line asked text
ExplainsAs asked text (Byte at) written = Shows Nothing text at written
ExplainsAs asked text (Word at) written = Shows Nothing text at written
ExplainsAs asked text (Number at) written = Shows Nothing text at written
ExplainsAs asked text (Syntax at) written = Shows (MayTell asked text) text at written
ExplainsAs asked text TooManyParts written = Nothing written
ExplainsAs asked text Memory written = Nothing written

-- the same of a condition
abbrev pub Explains : List ℕ → CondError → List ℕ → Type 0
Explains text error written = ExplainsAs Condition text error written

-- and of a question
abbrev pub ExplainsQuestion : List ℕ → CondError → List ℕ → Type 0
ExplainsQuestion text error written = ExplainsAs Question text error written

-- the hint for definitions that are too long
abbrev pub definitions_length_line : List ℕ → List ℕ
definitions_length_line text =
    codes "  hint: definitions have at most 4096 bytes, and these have "
    ++ decimal (length text) ++ codes "\n"

-- what is written of a text of definitions alone that is refused so
abbrev pub ExplainsDefinitions : List ℕ → CondError → List ℕ → Type 0
ExplainsDefinitions text TooLong written = written ≡ definitions_length_line text
ExplainsDefinitions text (Byte at) written = Shows Nothing text at written
ExplainsDefinitions text (Word at) written = Shows Nothing text at written
ExplainsDefinitions text (Number at) written = Shows Nothing text at written
ExplainsDefinitions text (Syntax at) written =
    Shows Nothing text at written ⊎ Shows (MayTell Condition text) text at written
ExplainsDefinitions text TooManyParts written = Nothing written
ExplainsDefinitions text Memory written = Nothing written
