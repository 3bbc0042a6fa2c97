-- The definitions of names before a condition or a value:
--     text     = def* cond
--     question = def* ( cond | value )
--     def      = "let" name [ "(" ( "seat" | "suit" | "seat" "," "suit" ) ")" ] "is"
--                "(" ( cond | value ) ")"
-- The names are numbered from 0 as they are given, so a name is new if its number is that of the
-- names before it. A body knows these, its parameters, and nothing else.
use Rattle.std.specs.Prelude.{◌≡◌, ◌≤◌, ℕ, Bool, true, false, Option, Some, None, List, [], ◌∷◌, ◌++◌, length, slice_get}
use Rattle.cond_lang.specs.declared.classes.Choice.{Choice}
use Rattle.cond_lang.specs.declared.classes.Class.TheVariants.{Suit as AnySuit, Seat as AnySeat}
use Rattle.cond_lang.specs.declared.classes.Params.{Params}
use Rattle.cond_lang.specs.declared.classes.Params.TheVariants.{Plain, OfSeat, OfSuit, OfBoth}
use Rattle.cond_lang.specs.declared.scanner.Token.{Token}
use Rattle.cond_lang.specs.declared.scanner.Token.TheVariants.{Class, Open, Close, Comma, Let, Is, Name}
use Rattle.conditions.specs.Form.{Amount, Form}
use Rattle.cond_lang.specs.Classes.{unbound, given}
use Rattle.cond_lang.specs.Grammar.{Meaning, Meanings, condition, value, SpellsCond, SpellsValue}

-- a name's parameters, between it and `is`
pub data HasParams : List Token → Params → Type 0 where
  no_params : HasParams [] Plain
  a_seat : HasParams (Open ∷ Class AnySeat ∷ Close ∷ []) OfSeat
  a_suit : HasParams (Open ∷ Class AnySuit ∷ Close ∷ []) OfSuit
  seat_and_suit : HasParams (Open ∷ Class AnySeat ∷ Comma ∷ Class AnySuit ∷ Close ∷ []) OfBoth

-- with each seat and suit for its parameters the body is a condition, or with each a value
pub data IsBody (N : Meanings) (p : Params) : List Token → Meaning → Type 0 where
  a_condition :
      {T : List Token} {f : Choice → Form}
      → ((x : Choice) → SpellsCond N (given p x) T (f x)) → IsBody N p T (condition p f)
  a_value :
      {T : List Token} {f : Choice → Amount}
      → ((x : Choice) → SpellsValue N (given p x) T (f x)) → IsBody N p T (value p f)

-- behind `let`: a new name, and what it stands for
pub data IsDefinition (N : Meanings) : List Token → Meaning → Type 0 where
  defines :
      {P T : List Token} {p : Params} {m : Meaning} → HasParams P p → IsBody N p T m
      → IsDefinition N (Name (length N) ∷ P ++ (Is ∷ Open ∷ T ++ Close ∷ [])) m

-- with the names N before them, the definitions make it the names M
pub data AreDefinitions : Meanings → List Token → Meanings → Type 0 where
  none : {N : Meanings} → AreDefinitions N [] N
  one_more :
      {N M : Meanings} {D T : List Token} {m : Meaning}
      → IsDefinition N D m → AreDefinitions (N ++ m ∷ []) T M
      → AreDefinitions N (Let ∷ D ++ T) M

-- the list begins with definitions of the names
abbrev pub BeginsWith : Meanings → List Token → Type 0
BeginsWith N T = (D : List Token) × (R : List Token) × AreDefinitions [] D N × (T ≡ D ++ R)

-- whether a name stands for a value
abbrev pub is_of_value : Meaning → Bool
is_of_value (condition p f) = false
is_of_value (value p f) = true

-- what is told of the n-th name that a list gives: whether it stands for a value, or that none of
-- the list's definitions gives it
abbrev pub TellsName : List Token → ℕ → Option Bool → Type 0
TellsName T n None = (N : Meanings) → BeginsWith N T → length N ≤ n
TellsName T n (Some b) =
    (N : Meanings) × (m : Meaning) × BeginsWith N T × (slice_get N n ≡ Some m) × (b ≡ is_of_value m)

-- definitions, and behind them what S spells with their names
pub data Defined {A : Type 0} (S : Meanings → List Token → A → Type 0)
    : List Token → A → Type 0 where
  defined :
      {D T : List Token} {N : Meanings} {x : A} → AreDefinitions [] D N → S N T x
      → Defined S (D ++ T) x

-- the whole list is definitions and one condition
abbrev pub Spells : List Token → Form → Type 0
Spells T t = Defined (λ N. SpellsCond N unbound) T t

-- the whole list is definitions and one value
abbrev pub SpellsAmount : List Token → Amount → Type 0
SpellsAmount T a = Defined (λ N. SpellsValue N unbound) T a

-- the whole list is one condition, and gives no name
abbrev pub SpellsNameless : List Token → Form → Type 0
SpellsNameless T t = SpellsCond [] unbound T t
