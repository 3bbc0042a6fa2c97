-- What a text was read as: a condition, or a question, which is a condition or a value.
use Rattle.std.specs.Prelude.{◌≡◌, ℕ, ◌<◌, Bool, false, Option, List, codes}
use Rattle.std.specs.Option.{unwrap_or}
use Rattle.cond_lang.specs.Asking.{CanFollowAsking, IsAskBeginning}
use Rattle.cond_lang.specs.Continuations.{CanFollow, IsBeginning}
use Rattle.cond_lang.specs.Definitions.{TellsName}
use Rattle.cond_lang.specs.declared.scanner.Token.{Token}
use Rattle.cond_lang.specs.declared.words.Kind.{Kind}
use Rattle.cond_lang.specs.declared.words.Kind.TheVariants as kind
use Rattle.explain_conditions.specs.declared.asked.TextKind.{TextKind}
use Rattle.explain_conditions.specs.declared.asked.TextKind.TheVariants.{Condition, Question}

-- what a person calls it
abbrev pub asked_name : TextKind → List ℕ
asked_name Condition = codes "condition"
asked_name Question = codes "question"

-- the list is the longest beginning of the text that one goes on with
abbrev pub Begins : TextKind → List ℕ → List Token → Type 0
Begins Condition text T = IsBeginning text T
Begins Question text T = IsAskBeginning text T

-- after the list some token of the kind may come
abbrev pub CanStand : TextKind → List Token → Kind → Type 0
CanStand Condition T k = CanFollow T k
CanStand Question T k = CanFollowAsking T k

-- a person is told of the kind, in a text with this many names
abbrev pub IsTold : ℕ → Kind → Type 0
IsTold count (kind.Name n) = n < count
IsTold count k = Unit {0}

-- whether the text's n-th name stands for a value, where the beginning gives it
abbrev pub IsOfValue : List Token → ℕ → Bool → Type 0
IsOfValue T n b = (told : Option Bool) × TellsName T n told × (b ≡ unwrap_or told false)
