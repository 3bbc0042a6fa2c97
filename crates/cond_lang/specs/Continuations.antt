-- What may come after the tokens that a condition, or what other rules spell, can begin with.
use Rattle.std.specs.Prelude.{◌≡◌, ◌⊎◌, ◌+◌, ◌-◌, ◌<◌, ◌≤◌, ℕ, Bool, true, false, Option, Some, slice_get, List, [], ◌∷◌, ◌++◌, length, take}
use Rattle.cond_lang.specs.declared.words.Kind.{Kind}
use Rattle.cond_lang.specs.declared.words.Kind.TheVariants as kind
use Rattle.cond_lang.specs.declared.scanner.Placed.{Placed}
use Rattle.cond_lang.specs.declared.scanner.Token.{Token}
use Rattle.cond_lang.specs.declared.scanner.Token.TheVariants.{Or, And, Not, Balanced, Shape, Pattern, Quantifier}
use Rattle.cond_lang.specs.declared.scanner.Token.TheVariants.{Stops, Measure, Cards, Len, Ordered}
use Rattle.cond_lang.specs.declared.scanner.Token.TheVariants.{In, X, Seat, Suit, Class, Neighbour, Ranks, Number}
use Rattle.cond_lang.specs.declared.scanner.Token.TheVariants.{Open, Close, Comma, Dash, Plus, Star, Relation, Let}
use Rattle.cond_lang.specs.declared.scanner.Token.TheVariants.{Is, Name}
use Rattle.cond_lang.specs.Cut.{HasTokens}
use Rattle.cond_lang.specs.Faults.{IsViableIn}
use Rattle.cond_lang.specs.Definitions.{Spells}
use Rattle.cond_lang.specs.Text.{kinds}

-- each word and each name of its own, and one kind for all comparisons, seats, suits, ranks,
-- numbers
abbrev pub kind_of : Token → Kind
kind_of Not = kind.Not
kind_of Open = kind.Open
kind_of Balanced = kind.Balanced
kind_of Shape = kind.Shape
kind_of Pattern = kind.Pattern
kind_of (Quantifier k) = kind.Quantifier k
kind_of Stops = kind.Stops
kind_of (Number n) = kind.Number
kind_of (Measure m) = kind.Measure m
kind_of Cards = kind.Cards
kind_of Len = kind.Len
kind_of (Ordered o) = kind.Ordered o
kind_of Plus = kind.Plus
kind_of Star = kind.Star
kind_of (Relation o) = kind.Relation
kind_of In = kind.In
kind_of Dash = kind.Dash
kind_of X = kind.X
kind_of Comma = kind.Comma
kind_of (Seat q) = kind.Seat
kind_of (Suit s) = kind.Suit
kind_of (Class c) = kind.Class c
kind_of (Neighbour n) = kind.Neighbour n
kind_of (Ranks h) = kind.Ranks
kind_of Close = kind.Close
kind_of And = kind.And
kind_of Or = kind.Or
kind_of Let = kind.Let
kind_of Is = kind.Is
kind_of (Name n) = kind.Name n

abbrev pub is_let : Option Token → Bool
is_let (Some Let) = true
is_let o = false

-- the last token is `let`, after which a new name comes
abbrev pub ends_with_let : List Token → Bool
ends_with_let T = is_let (slice_get T (length T - 1))

-- Behind T the list may end, since T spells something by the rules S, or some token of the kind
-- goes on to what does.
abbrev pub CanFollowIn : {A : Type 0} → (List Token → A → Type 0) → List Token → Kind → Type 0
CanFollowIn {A} S T k =
    ((k ≡ kind.End) × ((t : A) × S T t))
    ⊎ ((c : Token) × (kind_of c ≡ k) × IsViableIn S (T ++ c ∷ []))

-- n tokens begin what S spells, and no more of them do
pub record IsLongestViableIn {A : Type 0} (S : List Token → A → Type 0) (T : List Token) (n : ℕ)
    : Type 0 where
  pub within : n ≤ length T
  pub viable : IsViableIn S (take n T)
  pub no_more : n < length T → IsViableIn S (take (n + 1) T) → ⊥

-- T is the longest beginning of the text's tokens that goes on to what S spells
pub record IsBeginningIn {A : Type 0} (S : List Token → A → Type 0) (text : List ℕ)
    (T : List Token) : Type 0 where
  pub tokens : List Placed
  pub whole : HasTokens text tokens
  pub count : ℕ
  pub longest : IsLongestViableIn S (kinds tokens) count
  pub is : T ≡ take count (kinds tokens)

-- the same of conditions
abbrev pub CanFollow : List Token → Kind → Type 0
CanFollow T k = CanFollowIn Spells T k

abbrev pub IsLongestViable : List Token → ℕ → Type 0
IsLongestViable T n = IsLongestViableIn Spells T n

abbrev pub IsBeginning : List ℕ → List Token → Type 0
IsBeginning text T = IsBeginningIn Spells text T
