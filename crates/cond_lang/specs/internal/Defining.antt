-- Reading definitions from the left, and what the parser keeps of the names that they give.
use Rattle.std.specs.Prelude.{◌≡◌, ℕ, zero, suc, ◌+◌, ◌*◌, ◌==◌, Bool, true, false, List, [], ◌∷◌, ◌++◌, length, min, Some, if◌then◌else◌, slice_get}
use Rattle.cards.specs.declared.seat.Seat.TheVariants.{North}
use Rattle.cards.specs.declared.suit.Suit.TheVariants.{Spades}
use Rattle.conditions.specs.declared.tree.Op.TheVariants.{Equal}
use Rattle.cond_lang.specs.declared.classes.Bound.{Bound}
use Rattle.cond_lang.specs.declared.classes.Choice.{Choice}
use Rattle.cond_lang.specs.declared.classes.Class.TheVariants.{Suit as AnySuit, Seat as AnySeat}
use Rattle.cond_lang.specs.declared.classes.Params.{Params}
use Rattle.cond_lang.specs.declared.classes.Params.TheVariants.{Plain, OfSeat, OfSuit, OfBoth}
use Rattle.cond_lang.specs.declared.parser.names.Named.{Named}
use Rattle.cond_lang.specs.declared.scanner.Token.{Token}
use Rattle.cond_lang.specs.declared.scanner.Token.TheVariants.{Class, Open, Close, Comma, Let, Is, Name}
use Rattle.conditions.specs.Form.{Amount, number, Form, compare}
use Rattle.conditions.specs.Limits.{atoms_of, parts_of}
use Rattle.cond_lang.specs.Classes.{unbound, choice, given}
use Rattle.cond_lang.specs.Grammar.{Meaning, Meanings, condition, value}
use Rattle.cond_lang.specs.Text.{kinds}
use Rattle.cond_lang.specs.internal.Arguments.{is_argument, place_of}
use Rattle.cond_lang.specs.internal.Growing.{most_counted}
use Rattle.cond_lang.specs.internal.Reading.{Outcome, got, stuck, Reader, after, opened, closing, a_cond, a_value, reading}

-- ---- readers

-- a name that has this number
abbrev pub new_name : ℕ → Reader (Unit {0})
new_name k (Name n ∷ S) = if n == k then got tt S else stuck (Name n ∷ S)
new_name k S = stuck S

abbrev pub word_is : Reader (Unit {0})
word_is (Is ∷ S) = got tt S
word_is S = stuck S

-- the word `suit`
abbrev pub word_suit : Reader (Unit {0})
word_suit (Class AnySuit ∷ S) = got tt S
word_suit S = stuck S

-- nothing, or `, suit`, after the word `seat`
abbrev pub behind_seat : Reader Params
behind_seat (Comma ∷ S) = after (word_suit S) (λ _ R. got OfBoth R)
behind_seat S = got OfSeat S

-- `seat`, `suit`, or `seat , suit`
abbrev pub param : Reader Params
param (Class AnySeat ∷ S) = behind_seat S
param (Class AnySuit ∷ S) = got OfSuit S
param S = stuck S

-- nothing, or parameters in brackets
abbrev pub params : Reader Params
params (Open ∷ S) = after (param S) closing
params S = got Plain S

abbrev pub first : Choice
first = choice Spades North

-- the tree that was read
abbrev pub tree_read : Outcome Form → Form
tree_read (got t R) = t
tree_read (stuck R) = compare (number 0) Equal (number 0)

-- the value that was read
abbrev pub amount_read : Outcome Amount → Amount
amount_read (got a R) = a
amount_read (stuck R) = number 0

-- what a body from S on stands for
abbrev pub as_condition : Meanings → Params → List Token → Meaning
as_condition N p S = condition p (λ x. tree_read (reading N (given p x) a_cond S))

abbrev pub as_value : Meanings → Params → List Token → Meaning
as_value N p S = value p (λ x. amount_read (reading N (given p x) a_value S))

-- whether a value is read, and a closing bracket is in sight
abbrev pub ends_body : Outcome Amount → Bool
ends_body (got a (Close ∷ R)) = true
ends_body o = false

abbrev pub left_by : {A : Type 0} → Outcome A → List Token
left_by (got x S) = S
left_by (stuck S) = S

-- a body, by what it is as a value: that, where its bracket ends it, and else a condition
abbrev pub body_by : Meanings → Params → Outcome Amount → Reader Meaning
body_by N p (got a (Close ∷ R)) S = got (as_value N p S) (Close ∷ R)
body_by N p o S =
    after (reading N (given p first) a_cond S) (λ _ R. got (as_condition N p S) R)

unfoldable pub body : Meanings → Params → Reader Meaning
body N p S = body_by N p (reading N (given p first) a_value S) S

-- `is ( body )`
abbrev pub is_body : Meanings → Params → Reader Meaning
is_body N p S =
    after (word_is S) (λ _ S. after (opened S) (λ _ S. after (body N p S) closing))

-- what stands after `let`
unfoldable pub definition : Meanings → Reader Meaning
definition N S =
    after (new_name (length N) S) (λ _ S. after (params S) (λ p S. is_body N p S))

-- at most n definitions
unfoldable pub definitions_by : ℕ → Meanings → Reader Meanings
definitions_by zero N S = stuck S
definitions_by (suc n) N (Let ∷ S) =
    after (definition N S) (λ m R. definitions_by n (N ++ m ∷ []) R)
definitions_by (suc n) N S = got N S

-- all definitions, behind the given names
unfoldable pub definitions : Meanings → Reader Meanings
definitions N S = definitions_by (suc (length S)) N S

-- nothing is left
abbrev pub ended : {A : Type 0} → A → Reader A
ended t [] = got t []
ended t (c ∷ S) = stuck (c ∷ S)

-- one condition, and no more
abbrev pub cond_alone : Meanings → Reader Form
cond_alone N S = after (reading N unbound a_cond S) ended

-- one value, and no more
abbrev pub value_alone : Meanings → Reader Amount
value_alone N S = after (reading N unbound a_value S) ended

-- definitions, and no more
unfoldable pub definitions_alone : Reader Meanings
definitions_alone S = after (definitions [] S) ended

-- definitions and one condition, and no more
unfoldable pub whole : Reader Form
whole S = after (definitions [] S) (λ N R. cond_alone N R)

-- definitions and one value, and no more
unfoldable pub whole_value : Reader Amount
whole_value S = after (definitions [] S) (λ N R. value_alone N R)

-- ---- names as they are kept

-- what a name stands for, by the tokens from its body on
abbrev pub meaning_by : Meanings → Bool → Params → List Token → Meaning
meaning_by N true p S = as_value N p S
meaning_by N false p S = as_condition N p S

abbrev pub meaning : Meanings → Named → Meaning
meaning N m = meaning_by N m.is_value m.params (kinds m.body.now)

-- behind the names N
abbrev pub meanings_after : Meanings → List Named → Meanings
meanings_after N [] = N
meanings_after N (m ∷ ms) = meanings_after (N ++ meaning N m ∷ []) ms

abbrev pub meanings : List Named → Meanings
meanings ms = meanings_after [] ms

-- how many parts were read
abbrev pub parts_of_tree : Outcome Form → ℕ
parts_of_tree o = min (parts_of (tree_read o)) most_counted

abbrev pub parts_of_amount : Outcome Amount → ℕ
parts_of_amount o = min (atoms_of (amount_read o)) most_counted

abbrev pub parts_in : Meanings → Bool → Bound → List Token → ℕ
parts_in N true E S = parts_of_amount (reading N E a_value S)
parts_in N false E S = parts_of_tree (reading N E a_cond S)

-- the parts with each argument are at its place
abbrev pub AreCounted : Meanings → Params → Bool → List Token → List ℕ → Type 0
AreCounted N p is_value S parts =
    (x : Choice) → is_argument p x ≡ true
    → slice_get parts (place_of x) ≡ Some (parts_in N is_value (given p x) S)

-- something was read
abbrev pub IsGot : {A : Type 0} → Outcome A → Type 0
IsGot (got x R) = Unit {0}
IsGot (stuck R) = ⊥

abbrev pub IsRead : Meanings → Bool → Bound → List Token → Type 0
IsRead N true E S = IsGot (reading N E a_value S)
IsRead N false E S = IsGot (reading N E a_cond S)

-- the body can be read with the names before it, and its parts are counted
pub record IsSound (N : Meanings) (m : Named) : Type 0 where
  pub read : (x : Choice) → IsRead N m.is_value (given m.params x) (kinds m.body.now)
  pub counted : AreCounted N m.params m.is_value (kinds m.body.now) m.parts

abbrev pub AreSoundAfter : Meanings → List Named → Type 0
AreSoundAfter N [] = Unit {0}
AreSoundAfter N (m ∷ ms) = IsSound N m × AreSoundAfter (N ++ meaning N m ∷ []) ms

abbrev pub AreSound : List Named → Type 0
AreSound ms = AreSoundAfter [] ms

-- how much reading there is in the names' bodies, for measures
abbrev pub work_of : List Named → ℕ
work_of [] = 0
work_of (m ∷ ms) = 20 + 12 * length (kinds m.body.now) + work_of ms
