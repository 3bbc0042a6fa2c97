-- What is kept of a value or of a tree as far as it is read: how many parts it has, and it itself
-- if there is room for them.
use Rattle.std.specs.Prelude.{◌≡◌, ℕ, ◌-◌, ◌<◌, ◌≤◌, List, Option, Some, None, Result, Ok, Err}
use Rattle.std.specs.Prelude.{MatchOption, min}
use Rattle.conditions.specs.Form.{Amount, Form, amount_of, form_of}
use Rattle.conditions.specs.Limits.{atoms_of, parts_of}
use Rattle.cond_lang.specs.declared.parser.Refusal.{Refusal}
use Rattle.cond_lang.specs.declared.parser.Refusal.TheVariants.{Syntax, Memory}
use Rattle.cond_lang.specs.declared.parser.grown.Grown.{Grown}
use Rattle.cond_lang.specs.declared.parser.grown.GrownValue.{GrownValue}
use Rattle.cond_lang.specs.declared.scanner.Token.{Token}
use Rattle.cond_lang.specs.internal.Reading.{Outcome, got, stuck}

-- counts of parts go no higher
abbrev pub most_counted : ℕ
most_counted = 4294967295

-- this is kept of the value, where there is room for its parts
pub record IsGrownValue (room : ℕ) (grown : GrownValue) (a : Amount) : Type 0 where
  pub parts : grown.parts ≡ min (atoms_of a) most_counted
  pub value : MatchOption grown.value (room < atoms_of a)
      (λ v. (amount_of v ≡ a) × (atoms_of a ≤ room))

-- this is kept of the tree
pub record IsGrown (room : ℕ) (grown : Grown) (t : Form) : Type 0 where
  pub parts : grown.parts ≡ min (parts_of t) most_counted
  pub tree : MatchOption grown.tree (room < parts_of t)
      (λ b. (form_of b.value ≡ t) × (parts_of t ≤ room))

-- and of the tree if there is one
abbrev pub AreGrown : ℕ → Option Grown → Option Form → Type 0
AreGrown room None None = Unit {0}
AreGrown room (Some grown) (Some t) = IsGrown room grown t
AreGrown room _ _ = ⊥

-- the room behind a tree
abbrev pub room_behind : ℕ → Option Grown → ℕ
room_behind room None = room
room_behind room (Some grown) = room - grown.parts

-- A function returned what it kept of what is read, and left what is left, unless memory ran out.
abbrev pub GivesBy :
    {X A : Type 0} → (X → A → Type 0) → Result X Refusal → List Token → Outcome A → Type 0
GivesBy {X} {A} keeps (Ok x) rest o = (a : A) × keeps x a × (o ≡ got a rest)
GivesBy keeps (Err Syntax) rest o = o ≡ stuck rest
GivesBy keeps (Err Memory) rest o = Unit {0}
